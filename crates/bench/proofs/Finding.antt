-- A block is found in a list exactly where the list has it. Assumes nothing.
use Rattle.std.proofs.Common.{◌≡◌, ℕ, suc, Bool, true, false, cond, ◌||◌, eqb, List, [], ◌∷◌, Some, None, refl, arith}
use Rattle.recency.specs.Blocks.{has}
use Rattle.task.specs.Lists.{first_from}

pub not_found : (b i : ℕ) (xs : List ℕ) → first_from i (eqb b) xs ≡ None → has b xs ≡ false
not_found b i [] e = refl
not_found b i (x ∷ xs) e = go (eqb b x) e (λ h. not_found b (suc i) xs h) where
  go : (t : Bool) → cond t (Some i) (first_from (suc i) (eqb b) xs) ≡ None → (first_from (suc i) (eqb b) xs ≡ None → has b xs ≡ false) → (t || has b xs) ≡ false
  go true h ih = let z : ◌≡◌ {A = ℕ} 0 1 = cc in absurd (omega arith)
  go false h ih = ih h

pub found : (b i : ℕ) (xs : List ℕ) (k : ℕ) → first_from i (eqb b) xs ≡ Some k → has b xs ≡ true
found b i [] k e = let z : ◌≡◌ {A = ℕ} 0 1 = cc in absurd (omega arith)
found b i (x ∷ xs) k e = go (eqb b x) e (λ h. found b (suc i) xs k h) where
  go : (t : Bool) → cond t (Some i) (first_from (suc i) (eqb b) xs) ≡ Some k → (first_from (suc i) (eqb b) xs ≡ Some k → has b xs ≡ true) → (t || has b xs) ≡ true
  go true h ih = refl
  go false h ih = ih h
