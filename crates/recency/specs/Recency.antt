-- A list of blocks, newest first, and one access under the LRU policy (least recently used).
use Rattle.std.specs.Prelude.{ℕ, cond, List, [], ◌∷◌, take, ◌==◌}
use Rattle.recency.specs.Blocks.{has}

abbrev pub without : ℕ → List ℕ → List ℕ
without b [] = []
without b (x ∷ xs) = cond (b == x) xs (x ∷ without b xs)

-- a block that is there moves to the front; another one is put in front, and the first w stay
abbrev pub lru_step : ℕ → ℕ → List ℕ → List ℕ
lru_step w b l = cond (has b l) (b ∷ without b l) (take w (b ∷ l))

-- the blocks that stand in front of b, or all where it is not there
abbrev pub front : ℕ → List ℕ → List ℕ
front b [] = []
front b (x ∷ xs) = cond (b == x) [] (x ∷ front b xs)
