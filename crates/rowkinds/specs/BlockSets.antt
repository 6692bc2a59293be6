-- The cache sets of a task's blocks.
use Rattle.std.specs.Prelude.{ℕ, zero, suc, List, [], ◌∷◌, map}
use Rattle.recency.specs.Blocks.{set_of}
use Rattle.task.specs.Blocks.{distinct_blocks}
use Rattle.task.specs.Contents.{TaskContents}

-- the set of each distinct block, in the order of the blocks
abbrev pub block_sets : TaskContents → List ℕ
block_sets t = map (set_of t.sets) (distinct_blocks t.points)

-- n numbers: those of a list, then 0
abbrev pub filled_up : ℕ → List ℕ → List ℕ
filled_up zero xs = []
filled_up (suc n) [] = 0 ∷ filled_up n []
filled_up (suc n) (x ∷ xs) = x ∷ filled_up n xs
