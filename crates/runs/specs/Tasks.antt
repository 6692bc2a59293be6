-- The tasks of the reference runs, which differ in their evicting blocks: each has one cache set, 4 ways and reload time 0.
use Rattle.std.specs.Prelude.{ℕ, List, [], ◌∷◌}
use Rattle.task.specs.Contents.{TaskContents, task_with}
use Rattle.runs.specs.Words.{accesses, bare_exit}

-- four blocks in a loop, and the exit
abbrev pub four_in_a_loop : List ℕ → TaskContents
four_in_a_loop evicting =
    task_with 1 4 0
    (accesses 8 (1 ∷ [])
    ∷ accesses 9 (2 ∷ [])
    ∷ accesses 10 (3 ∷ [])
    ∷ accesses 11 (0 ∷ 4 ∷ [])
    ∷ bare_exit ∷ [])
    evicting

-- three blocks in a loop, and the exit
abbrev pub three_in_a_loop : List ℕ → TaskContents
three_in_a_loop evicting =
    task_with 1 4 0
    (accesses 8 (1 ∷ [])
    ∷ accesses 9 (2 ∷ [])
    ∷ accesses 10 (0 ∷ 3 ∷ [])
    ∷ bare_exit ∷ [])
    evicting

-- four blocks, one after the other, and back again
abbrev pub there_and_back : List ℕ → TaskContents
there_and_back evicting =
    task_with 1 4 0
    (accesses 1 (1 ∷ [])
    ∷ accesses 2 (2 ∷ [])
    ∷ accesses 3 (3 ∷ [])
    ∷ accesses 4 (4 ∷ [])
    ∷ accesses 4 (5 ∷ [])
    ∷ accesses 3 (6 ∷ [])
    ∷ accesses 2 (7 ∷ [])
    ∷ accesses 1 [] ∷ [])
    evicting
