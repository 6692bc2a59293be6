-- Filling an array with what a function says of each of a list's numbers. Assumes nothing.
use Rattle.std.proofs.Common.{◌≡◌, ℕ, zero, suc, ◌<◌, ◌≤◌, List, [], ◌∷◌, map, length, get_or, take, set, refl, ap, arith}
use Rattle.rowkinds.specs.BlockSets.{filled_up}

pub length_filled : (n : ℕ) (xs : List ℕ) → length (filled_up n xs) ≡ n
length_filled zero xs = refl
length_filled (suc n) [] = ap suc (length_filled n [])
length_filled (suc n) (x ∷ xs) = ap suc (length_filled n xs)

-- the zeros at the end are what reading past the list gives
pub getD_filled : (n : ℕ) (xs : List ℕ) (i : ℕ) → length xs ≤ n → get_or (filled_up n xs) i 0 ≡ get_or xs i 0
getD_filled zero [] i h = refl
getD_filled zero (x ∷ xs) i h = absurd (omega arith)
getD_filled (suc n) [] zero h = refl
getD_filled (suc n) [] (suc i) h = getD_filled n [] i (omega arith)
getD_filled (suc n) (x ∷ xs) zero h = refl
getD_filled (suc n) (x ∷ xs) (suc i) h = getD_filled n xs i (omega arith)

module _ (f : ℕ → ℕ) where
  pub filled_more : (n i : ℕ) (xs : List ℕ) → i < n → i < length xs → set (filled_up n (map f (take i xs))) i (f (get_or xs i 0)) ≡ filled_up n (map f (take (suc i) xs))
  filled_more zero i xs h k = absurd (omega arith)
  filled_more (suc n) i [] h k = absurd (omega arith)
  filled_more (suc n) zero (x ∷ xs) h k = refl
  filled_more (suc n) (suc i) (x ∷ xs) h k = ap (λ (zs : List ℕ). f x ∷ zs) (filled_more n i xs (omega arith) (omega arith))
