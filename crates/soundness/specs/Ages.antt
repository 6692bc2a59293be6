-- The ages of the blocks of one list, and that one LRU step moves them exactly as the age rule says.
use Rattle.std.specs.Prelude.{◌≡◌, ℕ, ◌≤◌, cond, List, length, Some}
use Rattle.recency.specs.Blocks.{has, set_of}
use Rattle.recency.specs.Recency.{lru_step, front}
use Rattle.soundness.specs.Flows.{aged}

-- the number of blocks in front of a block of the list; the ways for every other block
abbrev pub age_in : ℕ → List ℕ → ℕ → ℕ
age_in ways l x = cond (has x l) (length (front x l)) ways

-- for every block of the accessed block's set
abbrev pub AgesExact : Type 0
AgesExact =
    (sets ways a x : ℕ) (l : List ℕ) → length l ≤ ways → set_of sets x ≡ set_of sets a →
    age_in ways (lru_step ways a l) x ≡ aged sets ways (Some a) (age_in ways l) x
