-- One access under the FIFO policy (first in, first out).
use Rattle.std.specs.Prelude.{ℕ, cond, List, ◌∷◌, take, slice_set}
use Rattle.recency.specs.Blocks.{has, set_of}
use Rattle.recency.specs.Rows.{list_of}

-- a hit changes nothing; a missed block is put in front, and the first w stay
abbrev pub fifo_step : ℕ → ℕ → List ℕ → List ℕ
fifo_step w b l = cond (has b l) l (take w (b ∷ l))

-- an access changes the list of its block's set alone
abbrev pub fifo_row_step : ℕ → ℕ → ℕ → List (List ℕ) → List (List ℕ)
fifo_row_step sets w b row = slice_set row (set_of sets b) (fifo_step w b (list_of sets b row))
