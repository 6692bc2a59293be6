-- The lines that the program prints.
use Rattle.std.specs.Prelude.{ℕ, List, [], ◌∷◌, length, codes, decimal}
use Rattle.std.specs.List.{concat}
use Rattle.fields.specs.Said.{number}
use Rattle.task.specs.Blocks.{distinct_blocks}
use Rattle.task.specs.Contents.{TaskContents}
use Rattle.taskfile.specs.declared.fault.TaskFault.{TaskFault}
use Rattle.taskfile.specs.declared.fault.TaskFault.TheVariants.{Fields, Task, Memory}
use Rattle.taskfile.specs.Numbers.{task_number}

-- a refusal at a place of the file, with the number of its cause in the layer
abbrev pub placed_text : List ℕ → ℕ → ℕ → List ℕ
placed_text layer n place =
    concat (codes "refused " ∷ layer ∷ codes " " ∷ decimal n ∷ codes " at " ∷ decimal place ∷ codes "\n" ∷ [])

abbrev pub refusal_text : TaskFault → List ℕ
refusal_text (Fields f) = placed_text (codes "fields") (number f.cause) f.place
refusal_text (Task cause place) = placed_text (codes "task") (task_number cause) place
refusal_text Memory = codes "out of memory\n"

-- the cache, and how many points, distinct blocks of the points and evicting blocks the task has
abbrev pub summary_text : TaskContents → List ℕ
summary_text t =
    concat (
    codes "sets " ∷ decimal t.sets
    ∷ codes " ways " ∷ decimal t.ways
    ∷ codes " reload " ∷ decimal t.reload
    ∷ codes " points " ∷ decimal (length t.points)
    ∷ codes " blocks " ∷ decimal (length (distinct_blocks t.points))
    ∷ codes " evicting " ∷ decimal (length t.evicting)
    ∷ codes "\n" ∷ [])
