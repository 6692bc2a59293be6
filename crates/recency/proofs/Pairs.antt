-- Paired lists, read and changed at one place. Assumes nothing.
use Rattle.std.proofs.Common.{◌≡◌, ℕ, zero, suc, ◌<◌, List, [], ◌∷◌, length, get_or, set, replicate, refl, arith}
use Rattle.recency.specs.Paired.{Paired}

module _ {A B : Type 0} (R : A → B → Type 0) where
  pub paired_at : (xs : List A) (ys : List B) (i : ℕ) (a : A) (b : B) → i < length ys → Paired R xs ys → R (get_or xs i a) (get_or ys i b)
  paired_at [] [] i a b h p = absurd (omega arith)
  paired_at [] (y ∷ ys) i a b h p = absurd p
  paired_at (x ∷ xs) [] i a b h p = absurd p
  paired_at (x ∷ xs) (y ∷ ys) zero a b h p = p.0
  paired_at (x ∷ xs) (y ∷ ys) (suc i) a b h p = paired_at xs ys i a b (omega arith) p.1

  pub paired_set : (xs : List A) (ys : List B) (i : ℕ) (a : A) (b : B) → Paired R xs ys → R a b → Paired R (set xs i a) (set ys i b)
  paired_set [] [] i a b p r = tt
  paired_set [] (y ∷ ys) i a b p r = absurd p
  paired_set (x ∷ xs) [] i a b p r = absurd p
  paired_set (x ∷ xs) (y ∷ ys) zero a b p r = (r, p.1)
  paired_set (x ∷ xs) (y ∷ ys) (suc i) a b p r = (p.0, paired_set xs ys i a b p.1 r)

  -- one element that goes with all
  pub paired_replicate : (n : ℕ) (a : A) (ys : List B) → length ys ≡ n → ((y : B) → R a y) → Paired R (replicate n a) ys
  paired_replicate zero a [] e r = tt
  paired_replicate zero a (y ∷ ys) e r = absurd (omega arith)
  paired_replicate (suc n) a [] e r = absurd (omega arith)
  paired_replicate (suc n) a (y ∷ ys) e r = (r y, paired_replicate n a ys (omega arith) r)

  pub paired_length : (xs : List A) (ys : List B) → Paired R xs ys → length xs ≡ length ys
  paired_length [] [] p = refl
  paired_length [] (y ∷ ys) p = absurd p
  paired_length (x ∷ xs) [] p = absurd p
  paired_length (x ∷ xs) (y ∷ ys) p = let i = paired_length xs ys p.1 in omega arith
