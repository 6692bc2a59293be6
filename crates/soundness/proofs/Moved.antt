-- Lists of blocks that a limit does not cut: what stands in front of a block, and a block moved to the front. Assumes nothing.
use Rattle.std.proofs.Common.{◌≡◌, ℕ, zero, suc, ◌<◌, ◌≤◌, Bool, true, false, cond, not, eqb, ◌⊎◌, List, [], ◌∷◌, length, take, sym, refl, ap, ◌∙◌, subst, inl, inr, ⊎_elim, arith}
use Rattle.std.proofs.lemmas.Bool.{cases_Bool, cases_eq, or_left, or_right, eq-eqb, both_ways, and_parts, not-true}
use Rattle.std.proofs.lemmas.Bool.Decides.{nat_tests}
use Rattle.recency.specs.Blocks.{has, distinct}
use Rattle.recency.specs.Recency.{without, lru_step, front}
use Rattle.recency.proofs.Steps.{has_without, without_itself, without_distinct, without_length}
use Rattle.recency.proofs.Fronts.{front_without, front_fewer}

-- where a block stands: the number of blocks in front of it
abbrev pub place : ℕ → List ℕ → ℕ
place x l = length (front x l)

abbrev pub In : ℕ → List ℕ → Type 0
In x l = has x l ≡ true

abbrev pub Within : List ℕ → List ℕ → Type 0
Within xs ys = (y : ℕ) → In y xs → In y ys

abbrev pub Distinct : List ℕ → Type 0
Distinct l = distinct l ≡ true

-- a block moved to the front
abbrev pub moved : ℕ → List ℕ → List ℕ
moved a l = a ∷ without a l

-- no block is in the empty list
pub in_none : {A : Type 0} (x : ℕ) → In x [] → A
in_none x i = absurd (both_ways false refl i)

pub not_in : (x : ℕ) (l m : List ℕ) → Within l m → has x m ≡ false → has x l ≡ false
not_in x l m w h = ⊎_elim (λ (t : In x l). absurd (both_ways (has x m) h (w x t))) (λ (t : has x l ≡ false). t) (cases_Bool (has x l))

pub distinct_parts : (x : ℕ) (l : List ℕ) → Distinct (x ∷ l) → (has x l ≡ false) × Distinct l
distinct_parts x l d = let p = and_parts (not (has x l)) (distinct l) d in (not-true (has x l) p.0, p.1)

pub distinct_from : (x : ℕ) (l : List ℕ) → has x l ≡ false → Distinct l → Distinct (x ∷ l)
distinct_from x l h d = rw h d

-- the blocks in front of another
pub front_within : (x : ℕ) (l : List ℕ) → Within (front x l) l
front_within x [] y h = h
front_within x (z ∷ l) y h = let ih = front_within x l y in grind (arith, nat_tests)

pub front_distinct : (x : ℕ) (l : List ℕ) → Distinct l → Distinct (front x l)
front_distinct x [] d = refl
front_distinct x (z ∷ l) d = let p = distinct_parts z l d in go (eqb x z) (front_fewer x z l p.0) (front_distinct x l p.1) where
  go : (t : Bool) → has z (front x l) ≡ false → Distinct (front x l) → Distinct (cond t [] (z ∷ front x l))
  go true out ih = refl
  go false out ih = distinct_from z (front x l) out ih

pub place_lower : (a x : ℕ) (l : List ℕ) → In a (front x l) → place a l < place x l
place_lower a x [] h = in_none a h
place_lower a x (y ∷ l) h = let ih = place_lower a x l in grind (arith, nat_tests)

-- distinct blocks that are all in another list are no more than that list has
pub distinct_length : (xs ys : List ℕ) → Distinct xs → Within xs ys → length xs ≤ length ys
distinct_length [] ys d w = omega arith
distinct_length (x ∷ xs) ys d w =
    let p = distinct_parts x xs d in
    let here : In x ys = w x (or_left (eqb x x) (has x xs) (eq-eqb x x refl)) in
    let rest : Within xs (without x ys) =
    λ y h. has_without x y ys (λ e. both_ways (has x xs) p.0 (subst (λ v. In v xs) e h)) ∙ w y (or_right (eqb y x) (has y xs) h) in
    omega (arith, distinct_length xs (without x ys) p.1 rest, without_length x ys here)

pub distinct_moved : (a : ℕ) (l : List ℕ) → Distinct l → Distinct (moved a l)
distinct_moved a l d = distinct_from a (without a l) (without_itself a l d) (without_distinct a l d)

pub front_moved : (x a : ℕ) (l : List ℕ) → (x ≡ a → ⊥) → front x (moved a l) ≡ moved a (front x l)
front_moved x a l n = let e = front_without x a l n in grind (arith, nat_tests)

pub in_moved : (y a : ℕ) (l : List ℕ) → In y (moved a l) → (y ≡ a) ⊎ In y l
in_moved y a l h =
    ⊎_elim (λ (e : y ≡ a). inl e) (λ (n : y ≡ a → ⊥). inr (let e = has_without a y l n in grind (arith, nat_tests))) (cases_eq y a)

pub in_moved_first : (a : ℕ) (l : List ℕ) → In a (moved a l)
in_moved_first a l = or_left (eqb a a) (has a (without a l)) (eq-eqb a a refl)

pub in_moved_old : (y a : ℕ) (l : List ℕ) → In y l → In y (moved a l)
in_moved_old y a l h =
    ⊎_elim
    (λ (e : y ≡ a). subst (λ v. In v (moved a l)) (sym e) (in_moved_first a l))
    (λ (n : y ≡ a → ⊥). or_right (eqb y a) (has y (without a l)) (has_without a y l n ∙ h))
    (cases_eq y a)

-- another block than the moved one was there before
pub in_moved_other : (y a : ℕ) (l : List ℕ) → (y ≡ a → ⊥) → In y (moved a l) → In y l
in_moved_other y a l n h = ⊎_elim (λ (e : y ≡ a). absurd (n e)) (λ (i : In y l). i) (in_moved y a l h)

pub moved_within : (a : ℕ) (l m : List ℕ) → Within l m → In a m → Within (moved a l) m
moved_within a l m w h y t = ⊎_elim (λ (e : y ≡ a). subst (λ v. In v m) (sym e) h) (λ (i : In y l). w y i) (in_moved y a l t)

-- the first k of a list have the blocks with fewer than k in front of them
pub in_take : (k x : ℕ) (l : List ℕ) → In x l → place x l < k → In x (take k l)
in_take zero x l h p = absurd (omega arith)
in_take (suc k) x [] h p = h
in_take (suc k) x (y ∷ l) h p = let ih = in_take k x l in grind (arith, nat_tests)

pub take_in : (k x : ℕ) (l : List ℕ) → In x (take k l) → In x l × (place x l < k)
take_in zero x l h = in_none x h
take_in (suc k) x [] h = in_none x h
take_in (suc k) x (y ∷ l) h = let ih = take_in k x l in (grind (arith, nat_tests), grind (arith, nat_tests))

take_moved_in : (k a : ℕ) (l : List ℕ) → In a (take (suc k) l) → without a (take (suc k) l) ≡ take k (without a l)
take_moved_in zero a [] h = refl
take_moved_in (suc k) a [] h = refl
take_moved_in zero a (y ∷ l) h = grind (arith, nat_tests)
take_moved_in (suc k) a (y ∷ l) h = let ih = take_moved_in k a l in grind (arith, nat_tests)

take_moved_out : (k a : ℕ) (l : List ℕ) → has a (take (suc k) l) ≡ false → take k (take (suc k) l) ≡ take k (without a l)
take_moved_out zero a l h = refl
take_moved_out (suc k) a [] h = refl
take_moved_out (suc k) a (y ∷ l) h = let ih = take_moved_out k a l in grind (arith, nat_tests)

-- one LRU step of the first k of a list gives the first k of the list with the block moved to the front
pub step_take : (k a : ℕ) (l : List ℕ) → 0 < k → lru_step k a (take k l) ≡ take k (moved a l)
step_take zero a l h = absurd (omega arith)
step_take (suc k) a l h =
    ⊎_elim
    (λ (e : has a (take (suc k) l) ≡ true). rw e (ap {B = List ℕ} (λ r. a ∷ r) (take_moved_in k a l e)))
    (λ (e : has a (take (suc k) l) ≡ false). rw e (ap {B = List ℕ} (λ r. a ∷ r) (take_moved_out k a l e)))
    (cases_Bool (has a (take (suc k) l)))
