-- One LRU step keeps a list a list of its set. Assumes nothing.
use Rattle.std.proofs.Common.{◌≡◌, ℕ, zero, suc, ◌≤◌, true, false, ◌&&◌, eqb, leb, List, [], ◌∷◌, length, take, refl, arith, length-take}
use Rattle.std.proofs.lemmas.Bool.{and_parts, and_from, le-leb, leb-true, eq-eqb, cond_both}
use Rattle.std.proofs.lemmas.Bool.Decides.{nat_tests}
use Rattle.recency.specs.Blocks.{has, distinct, of_set, set_of}
use Rattle.recency.specs.Recency.{without, lru_step}
use Rattle.recency.specs.Rows.{is_list}

-- taking a block out
pub has_without : (b c : ℕ) (l : List ℕ) → (c ≡ b → ⊥) → has c (without b l) ≡ has c l
has_without b c [] n = refl
has_without b c (x ∷ l) n = let i = has_without b c l n in grind (arith, nat_tests)

pub without_fewer : (b c : ℕ) (l : List ℕ) → has c l ≡ false → has c (without b l) ≡ false
without_fewer b c [] h = refl
without_fewer b c (x ∷ l) h = let i = without_fewer b c l in grind (arith, nat_tests)

pub without_itself : (b : ℕ) (l : List ℕ) → distinct l ≡ true → has b (without b l) ≡ false
without_itself b [] h = refl
without_itself b (x ∷ l) h = let i = without_itself b l in grind (arith, nat_tests)

pub without_distinct : (b : ℕ) (l : List ℕ) → distinct l ≡ true → distinct (without b l) ≡ true
without_distinct b [] h = refl
without_distinct b (x ∷ l) h = let i = without_distinct b l in let j = without_fewer b x l in grind (arith, nat_tests)

pub without_of_set : (sets s b : ℕ) (l : List ℕ) → of_set sets s l ≡ true → of_set sets s (without b l) ≡ true
without_of_set sets s b [] h = refl
without_of_set sets s b (x ∷ l) h = let i = without_of_set sets s b l in grind (arith, nat_tests)

pub without_length : (b : ℕ) (l : List ℕ) → has b l ≡ true → suc (length (without b l)) ≡ length l
without_length b [] h = absurd (let z : ◌≡◌ {A = ℕ} 0 1 = cc in omega arith)
without_length b (x ∷ l) h = let i = without_length b l in grind (arith, nat_tests)

-- the first of a list
pub take_has : (n b : ℕ) (l : List ℕ) → has b l ≡ false → has b (take n l) ≡ false
take_has zero b l h = refl
take_has (suc n) b [] h = refl
take_has (suc n) b (x ∷ l) h = let i = take_has n b l in grind (arith, nat_tests)

pub take_distinct : (n : ℕ) (l : List ℕ) → distinct l ≡ true → distinct (take n l) ≡ true
take_distinct zero l h = refl
take_distinct (suc n) [] h = refl
take_distinct (suc n) (x ∷ l) h = let i = take_distinct n l in let j = take_has n x l in grind (arith, nat_tests)

pub take_of_set : (sets s n : ℕ) (l : List ℕ) → of_set sets s l ≡ true → of_set sets s (take n l) ≡ true
take_of_set sets s zero l h = refl
take_of_set sets s (suc n) [] h = refl
take_of_set sets s (suc n) (x ∷ l) h = let i = take_of_set sets s n l in grind (arith, nat_tests)

module _ (w b : ℕ) (l : List ℕ) where
  pub step_distinct : distinct l ≡ true → distinct (lru_step w b l) ≡ true
  step_distinct h =
      cond_both (has b l) (b ∷ without b l) (take w (b ∷ l)) (λ m. distinct m ≡ true)
      (λ _. let i = without_itself b l h in let j = without_distinct b l h in grind (arith, nat_tests))
      (λ e. take_distinct w (b ∷ l) (grind (arith, nat_tests)))

  pub step_of_set : (sets s : ℕ) → set_of sets b ≡ s → of_set sets s l ≡ true → of_set sets s (lru_step w b l) ≡ true
  step_of_set sets s e h =
      let here : eqb (set_of sets b) s ≡ true = eq-eqb _ _ e in
      cond_both (has b l) (b ∷ without b l) (take w (b ∷ l)) (λ m. of_set sets s m ≡ true)
      (λ _. and_from _ _ here (without_of_set sets s b l h))
      (λ _. take_of_set sets s w (b ∷ l) (and_from _ _ here h))

  pub step_length : length l ≤ w → length (lru_step w b l) ≤ w
  step_length h =
      cond_both (has b l) (b ∷ without b l) (take w (b ∷ l)) (λ m. length m ≤ w)
      (λ e. let n = without_length b l e in omega arith)
      (λ _. let n = length-take w (b ∷ l) in omega arith)

  pub step_has : 1 ≤ w → has b (lru_step w b l) ≡ true
  step_has h = by w h
    where
      by : (n : ℕ) → 1 ≤ n → has b (lru_step n b l) ≡ true
      by zero k = absurd (omega arith)
      by (suc n) k = cond_both (has b l) (b ∷ without b l) (b ∷ take n l) (λ m. has b m ≡ true) (λ _. grind (arith, nat_tests)) (λ _. grind (arith, nat_tests))

  pub step_is_list : (sets s : ℕ) → set_of sets b ≡ s → is_list sets w s l ≡ true → is_list sets w s (lru_step w b l) ≡ true
  step_is_list sets s e h =
      let p = and_parts (distinct l) (of_set sets s l && leb (length l) w) h in
      let q = and_parts (of_set sets s l) (leb (length l) w) p.1 in
      and_from _ _ (step_distinct p.0) (and_from _ _ (step_of_set sets s e q.0) (le-leb _ _ (step_length (leb-true _ _ q.1))))
