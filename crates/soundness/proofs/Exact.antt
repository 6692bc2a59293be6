-- One LRU step moves the ages of a list exactly as the age rule says. Assumes nothing.
use Rattle.std.proofs.Common.{◌≡◌, ℕ, zero, suc, ◌+◌, ◌≤◌, min, Bool, true, false, cond, leb, List, [], ◌∷◌, length, refl, ap, ◌∙◌, ⊎_elim, arith}
use Rattle.std.proofs.lemmas.Bool.{cases_Bool, cases_eq, eq-eqb, ne_eqb}
use Rattle.std.proofs.lemmas.Bool.Decides.{nat_tests}
use Rattle.recency.specs.Blocks.{has, set_of}
use Rattle.recency.specs.Recency.{lru_step, front}
use Rattle.recency.proofs.Steps.{without_length, step_has}
use Rattle.recency.proofs.Fronts.{front_short, without_none, step_front_itself, step_front_kept, step_keeps}
use Rattle.soundness.specs.Ages.{age_in, AgesExact}
use Rattle.soundness.proofs.Moved.{In, front_within, place_lower}

-- a block that is not in front of another stands no earlier
place_higher : (a x : ℕ) (l : List ℕ) → In x l → has a (front x l) ≡ false → length (front x l) ≤ length (front a l)
place_higher a x [] i h = omega arith
place_higher a x (y ∷ l) i h = let ih = place_higher a x l in grind (arith, nat_tests)

same : (t : Bool) → ◌≡◌ {A = ℕ} (cond t 0 0) 0
same true = refl
same false = refl

-- the accessed block is the newest
accessed : (ways a : ℕ) (l : List ℕ) → age_in ways (lru_step ways a l) a ≡ 0
accessed zero a l = rw (step_front_itself zero a l) (same (has a (lru_step zero a l)))
accessed (suc k) a l = rw (step_has (suc k) a l (omega arith), step_front_itself (suc k) a l)

module _ (ways a x : ℕ) (l : List ℕ) (short : length l ≤ ways) (other : x ≡ a → ⊥) where
  -- the age rule for another block of the set
  other_aged : age_in ways (lru_step ways a l) x ≡ cond (leb (age_in ways l x) (age_in ways l a)) (min (age_in ways l x + 1) ways) (age_in ways l x)
  other_aged =
      let keeps = step_keeps ways x a l other short in
      let kept = λ (h : In x (lru_step ways a l)). ap length (step_front_kept ways x a l other short h) in
      ⊎_elim
      (λ (i : In x l).
      let low = front_short x l i in
      ⊎_elim
      (λ (b : In a (front x l)).
      let c = without_length a (front x l) b in
      let d = place_lower a x l b in
      let f = front_within x l a b in
      grind (arith, nat_tests))
      (λ (b : has a (front x l) ≡ false).
      let c = ap length (without_none a (front x l) b) in
      let d = place_higher a x l i b in
      grind (arith, nat_tests))
      (cases_Bool (has a (front x l))))
      (λ (i : has x l ≡ false). grind (arith, nat_tests))
      (cases_Bool (has x l))

pub ages_exact : AgesExact
ages_exact sets ways a x l short near =
    ⊎_elim
    (λ (e : x ≡ a). rw (eq-eqb x a e) (ap (age_in ways (lru_step ways a l)) e ∙ accessed ways a l))
    (λ (n : x ≡ a → ⊥). rw (ne_eqb x a n, eq-eqb (set_of sets x) (set_of sets a) near) (other_aged ways a x l short n))
    (cases_eq x a)
