-- Words on lists that the other definitions use.
use Rattle.std.specs.Prelude.{ℕ, suc, Bool, true, cond, ◌&&◌, List, [], ◌∷◌, Some, None, Option, nat_lt}

abbrev pub every : {X : Type 0} → (X → Bool) → List X → Bool
every test [] = true
every test (x ∷ xs) = test x && every test xs

-- each number is below the next
abbrev pub rising : List ℕ → Bool
rising [] = true
rising (x ∷ []) = true
rising (x ∷ y ∷ ys) = nat_lt x y && rising (y ∷ ys)

-- the index, counted from i, of the first that passes a test
abbrev pub first_from : {X : Type 0} → ℕ → (X → Bool) → List X → Option ℕ
first_from i test [] = None
first_from i test (x ∷ xs) = cond (test x) (Some i) (first_from (suc i) test xs)
