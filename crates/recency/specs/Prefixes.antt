-- Lists that stand at the front of others.
use Rattle.std.specs.Prelude.{◌≡◌, ℕ, List, [], ◌∷◌}

-- l is the front part of m
abbrev pub Prefix : List ℕ → List ℕ → Type 0
Prefix [] m = Unit {0}
Prefix (x ∷ xs) [] = ⊥
Prefix (x ∷ xs) (y ∷ ys) = (x ≡ y) × Prefix xs ys
