-- What holds of the elements of two lists at each place.
use Rattle.std.specs.Prelude.{List, [], ◌∷◌}

-- the lists are as long, and R holds at each place
abbrev pub Paired : {A B : Type 0} → (A → B → Type 0) → List A → List B → Type 0
Paired R [] [] = Unit {0}
Paired R [] (y ∷ ys) = ⊥
Paired R (x ∷ xs) [] = ⊥
Paired R (x ∷ xs) (y ∷ ys) = R x y × Paired R xs ys
