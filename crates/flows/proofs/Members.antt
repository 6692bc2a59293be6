-- Sets of block indices as lists of blocks. Assumes nothing.
use Rattle.std.proofs.Common.{◌≡◌, ℕ, zero, suc, ◌+◌, ◌-◌, ◌<◌, ◌≤◌, Bool, true, false, cond, ◌||◌, eqb, List, [], ◌∷◌, length, get_or, Some, None, Option, sym, refl, ap, ◌∙◌, subst, add-zero, zero-add, arith}
use Rattle.std.proofs.lemmas.Bool.{eq-eqb, eqb-true, eqb-false}
use Rattle.recency.specs.Blocks.{has}
use Rattle.blocksets.specs.Digits.{digit, tally}
use Rattle.blocksets.specs.Members.{Holds, Within, size}
use Rattle.blocksets.specs.declared.BlockSet.{BlockSet}
use Rattle.blocksets.proofs.Digits.{digit_small, tally_past}
use Rattle.conflicts.specs.Conflicts.{Included as Set-included}
use Rattle.soundness.specs.Flows.{Included}
use Rattle.flows.specs.Of.{members, members_from}

or_more : (v w z : Bool) → (w ≡ true → z ≡ true) → (v || w) ≡ true → (v || z) ≡ true
or_more true w z f e = refl
or_more false w z f e = f e

or_right : (v w : Bool) → w ≡ true → (v || w) ≡ true
or_right true w e = refl
or_right false w e = e

-- a set that includes another has its blocks
pub members_within : (i : ℕ) (s u : BlockSet) (bs : List ℕ) → Within s u → (y : ℕ) → has y (members_from i s bs) ≡ true → has y (members_from i u bs) ≡ true
members_within i s u [] w y h = h
members_within i s u (b ∷ bs) w y h = go (eqb (digit s.mask i) 1) (eqb (digit u.mask i) 1) refl refl h (λ k. members_within (suc i) s u bs w y k) where
  go : (v z : Bool) → eqb (digit s.mask i) 1 ≡ v → eqb (digit u.mask i) 1 ≡ z → has y (cond v (b ∷ members_from (suc i) s bs) (members_from (suc i) s bs)) ≡ true → (has y (members_from (suc i) s bs) ≡ true → has y (members_from (suc i) u bs) ≡ true) →
      has y (cond z (b ∷ members_from (suc i) u bs) (members_from (suc i) u bs)) ≡ true
  go true true e f k ih = or_more (eqb y b) (has y (members_from (suc i) s bs)) (has y (members_from (suc i) u bs)) ih k
  go true false e f k ih = absurd (eqb-false (digit u.mask i) 1 f (w i (eqb-true (digit s.mask i) 1 e)))
  go false true e f k ih = or_right (eqb y b) (has y (members_from (suc i) u bs)) (ih k)
  go false false e f k ih = ih k

-- a block whose index is in the set is one of its members
pub member_at : (i j : ℕ) (s : BlockSet) (bs : List ℕ) (d : ℕ) → j < length bs → Holds s (i + j) → has (get_or bs j d) (members_from i s bs) ≡ true
member_at i j s [] d l h = absurd (omega arith)
member_at i zero s (b ∷ bs) d l h =
    let e : eqb (digit s.mask i) 1 ≡ true = eq-eqb (digit s.mask i) 1 (ap (digit s.mask) (sym (add-zero i)) ∙ h) in
    ap (λ v. has b (cond v (b ∷ members_from (suc i) s bs) (members_from (suc i) s bs))) e ∙ ap (λ v. v || has b (members_from (suc i) s bs)) (eq-eqb b b refl)
member_at i (suc j) s (b ∷ bs) d l h =
    let q : i + suc j ≡ suc i + j = omega arith in
    go (eqb (digit s.mask i) 1) (member_at (suc i) j s bs d (omega arith) (subst (Holds s) q h)) where
      go : (v : Bool) → has (get_or bs j d) (members_from (suc i) s bs) ≡ true → has (get_or bs j d) (cond v (b ∷ members_from (suc i) s bs) (members_from (suc i) s bs)) ≡ true
      go true k = or_right (eqb (get_or bs j d) b) (has (get_or bs j d) (members_from (suc i) s bs)) k
      go false k = k

-- as many members as the set has places with a 1
members_tally : (i : ℕ) (s : BlockSet) (bs : List ℕ) → length (members_from i s bs) + tally s.mask i ≡ tally s.mask (i + length bs)
members_tally i s [] = zero-add (tally s.mask i) ∙ ap (tally s.mask) (sym (add-zero i))
members_tally i s (b ∷ bs) = go (eqb (digit s.mask i) 1) refl (members_tally (suc i) s bs) where
  go : (v : Bool) → eqb (digit s.mask i) 1 ≡ v → length (members_from (suc i) s bs) + tally s.mask (suc i) ≡ tally s.mask (suc i + length bs) →
      length (cond v (b ∷ members_from (suc i) s bs) (members_from (suc i) s bs)) + tally s.mask i ≡ tally s.mask (i + suc (length bs))
  go true e ih =
      let q : suc i + length bs ≡ i + suc (length bs) = omega arith in
      let r = eqb-true (digit s.mask i) 1 e in
      let z = ih ∙ ap (tally s.mask) q in omega (arith, z, r)
  go false e ih =
      let q : suc i + length bs ≡ i + suc (length bs) = omega arith in
      let d = digit_small s.mask i in
      let ne : digit s.mask i ≡ 1 → ⊥ = eqb-false (digit s.mask i) 1 e in
      let r : digit s.mask i ≡ 0 = zero_or_one (digit s.mask i) d ne in
      let z = ih ∙ ap (tally s.mask) q in omega (arith, z, r) where
        zero_or_one : (k : ℕ) → k < 2 → (k ≡ 1 → ⊥) → k ≡ 0
        zero_or_one zero h n = refl
        zero_or_one (suc zero) h n = absurd (n refl)
        zero_or_one (suc (suc k)) h n = absurd (omega arith)

-- the number of members of a set of blocks below the length of the list is its size
pub members_size : (s : BlockSet) (bs : List ℕ) → length bs ≤ 64 → ((j : ℕ) → Holds s j → j < length bs) → length (members_from 0 s bs) ≡ size s
unfolding size
members_size s bs few below =
    let e : 64 ≡ (64 - length bs) + length bs = omega arith in
    let t = members_tally 0 s bs in
    let u : length (members_from 0 s bs) ≡ tally s.mask (length bs) = sym (add-zero (length (members_from 0 s bs))) ∙ t ∙ ap (tally s.mask) (zero-add (length bs)) in
    u ∙ sym (ap (tally s.mask) e ∙ tally_past s.mask (length bs) (64 - length bs) below)

-- and for sets or none
pub members_included : (bs : List ℕ) (x y : Option BlockSet) → Set-included x y → Included (members bs x) (members bs y)
members_included bs None y h = tt
members_included bs (Some s) None h = absurd h
members_included bs (Some s) (Some u) h = λ b k. members_within 0 s u bs h b k
