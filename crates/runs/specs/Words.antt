-- Short words for the reference runs.
use Rattle.std.specs.Prelude.{ℕ, ◌+◌, cond, List, [], ◌∷◌, Some, None}
use Rattle.recency.specs.Blocks.{has}
use Rattle.task.specs.Contents.{PointContents, point_with}
use Rattle.cache.specs.FifoSteps.{fifo_step}
use Rattle.numbers.specs.declared.PointNumbers.{PointNumbers}

-- a point that accesses a block
abbrev pub accesses : ℕ → List ℕ → PointContents
accesses block successors = point_with (Some block) successors

-- a point without access or successor
abbrev pub bare_exit : PointContents
bare_exit = point_with None []

-- the four numbers of a point, in the order in which they are printed
abbrev pub figures : ℕ → ℕ → ℕ → ℕ → PointNumbers
figures useful evicting combined resilient = record { useful = useful; evicting = evicting; combined = combined; resilient = resilient }

-- how often accesses miss in one FIFO set of so many ways that holds some blocks
abbrev pub fifo_misses : ℕ → List ℕ → List ℕ → ℕ
fifo_misses ways [] held = 0
fifo_misses ways (b ∷ bs) held = cond (has b held) 0 1 + fifo_misses ways bs (fifo_step ways b held)
