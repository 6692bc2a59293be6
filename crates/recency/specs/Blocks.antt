-- Blocks and the cache sets that they belong to.
use Rattle.std.specs.Prelude.{ℕ, ◌%◌, Bool, true, false, not, ◌&&◌, ◌||◌, List, [], ◌∷◌, ◌==◌}

-- the set of a block
abbrev pub set_of : ℕ → ℕ → ℕ
set_of sets b = b % sets

abbrev pub has : ℕ → List ℕ → Bool
has b [] = false
has b (x ∷ xs) = b == x || has b xs

-- no block stands twice
abbrev pub distinct : List ℕ → Bool
distinct [] = true
distinct (x ∷ xs) = not (has x xs) && distinct xs

-- each block belongs to set s
abbrev pub of_set : ℕ → ℕ → List ℕ → Bool
of_set sets s [] = true
of_set sets s (b ∷ bs) = set_of sets b == s && of_set sets s bs
