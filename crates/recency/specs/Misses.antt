-- Which accesses of a run can miss.
use Rattle.std.specs.Prelude.{ℕ, ◌+◌, cond, List, [], ◌∷◌}
use Rattle.recency.specs.Blocks.{has}
use Rattle.recency.specs.Rows.{list_of, row_step}

-- the number of accesses whose block is not in the row as it then is: the misses of an LRU cache of w ways that holds the row
abbrev pub possible_misses : ℕ → ℕ → List ℕ → List (List ℕ) → ℕ
possible_misses sets w [] row = 0
possible_misses sets w (b ∷ bs) row = cond (has b (list_of sets b row)) 0 1 + possible_misses sets w bs (row_step sets w b row)
