-- Where blocks stand among those of a task. Assumes nothing.
use Rattle.std.proofs.Common.{◌≡◌, ℕ, zero, suc, ◌+◌, ◌<◌, ◌≤◌, Bool, true, false, cond, not, ◌||◌, eqb, List, [], ◌∷◌, map, length, get_or, Some, sym, refl, ap, ◌∙◌, subst, ⊎_elim, arith}
use Rattle.std.proofs.lemmas.Bool.{and_parts, both_ways, cases_eq, eq-eqb, ne_eqb, eqb-true}
use Rattle.recency.specs.Blocks.{distinct, has}
use Rattle.task.specs.Lists.{first_from}
use Rattle.rowkinds.specs.BlockSets.{filled_up}
use Rattle.flows.specs.Of.{index}

-- a block of the list stands before its end
pub index_below : (x : ℕ) (bs : List ℕ) → has x bs ≡ true → index x bs < length bs
index_below x [] h = absurd (both_ways false refl h)
index_below x (b ∷ bs) h = go (eqb x b) refl (λ k. index_below x bs k) where
  go : (t : Bool) → eqb x b ≡ t → (has x bs ≡ true → index x bs < length bs) → cond t 0 (suc (index x bs)) < suc (length bs)
  go true e ih = omega arith
  go false e ih = let r = ih (sym (ap (λ v. v || has x bs) e) ∙ h) in omega arith

-- and is what stands there
pub at_index : (x d : ℕ) (bs : List ℕ) → has x bs ≡ true → get_or bs (index x bs) d ≡ x
at_index x d [] h = absurd (both_ways false refl h)
at_index x d (b ∷ bs) h = go (eqb x b) refl (λ k. at_index x d bs k) where
  go : (t : Bool) → eqb x b ≡ t → (has x bs ≡ true → get_or bs (index x bs) d ≡ x) → get_or (b ∷ bs) (cond t 0 (suc (index x bs))) d ≡ x
  go true e ih = sym (eqb-true x b e)
  go false e ih = ih (sym (ap (λ v. v || has x bs) e) ∙ h)

-- what is found first stands at the index
pub first_is_index : (x : ℕ) (bs : List ℕ) (i : ℕ) → has x bs ≡ true → first_from i (eqb x) bs ≡ Some (i + index x bs)
first_is_index x [] i h = absurd (both_ways false refl h)
first_is_index x (b ∷ bs) i h = go (eqb x b) refl (λ k. first_is_index x bs (suc i) k) where
  go : (t : Bool) → eqb x b ≡ t → (has x bs ≡ true → first_from (suc i) (eqb x) bs ≡ Some (suc i + index x bs)) → cond t (Some i) (first_from (suc i) (eqb x) bs) ≡ Some (i + cond t 0 (suc (index x bs)))
  go true e ih = let q : i ≡ i + 0 = omega arith in ap Some q
  go false e ih = let q : suc i + index x bs ≡ i + suc (index x bs) = omega arith in ih (sym (ap (λ v. v || has x bs) e) ∙ h) ∙ ap Some q

pub has_at : (bs : List ℕ) (i d : ℕ) → i < length bs → has (get_or bs i d) bs ≡ true
has_at [] i d h = absurd (omega arith)
has_at (b ∷ bs) zero d h = ap (λ v. v || has b bs) (eq-eqb b b refl)
has_at (b ∷ bs) (suc i) d h = ap (λ v. eqb (get_or bs i d) b || v) (has_at bs i d (omega arith)) ∙ or_true (eqb (get_or bs i d) b) where
  or_true : (v : Bool) → (v || true) ≡ true
  or_true true = refl
  or_true false = refl

-- no block stands twice, so that each stands at its index
pub index_at : (bs : List ℕ) (i d : ℕ) → distinct bs ≡ true → i < length bs → index (get_or bs i d) bs ≡ i
index_at [] i d u h = absurd (omega arith)
index_at (b ∷ bs) zero d u h = ap (λ v. cond v 0 (suc (index b bs))) (eq-eqb b b refl)
index_at (b ∷ bs) (suc i) d u h =
    let parts = and_parts (not (has b bs)) (distinct bs) u in
    let ne : eqb (get_or bs i d) b ≡ false = other (eqb (get_or bs i d) b) refl parts.0 in
    ap (λ v. cond v 0 (suc (index (get_or bs i d) bs))) ne ∙ ap suc (index_at bs i d parts.1 (omega arith)) where
      other : (v : Bool) → eqb (get_or bs i d) b ≡ v → not (has b bs) ≡ true → v ≡ false
      other false e n = refl
      other true e n =
          let there : has b bs ≡ true = subst (λ y. has y bs ≡ true) (eqb-true (get_or bs i d) b e) (has_at bs i d (omega arith)) in
          let z : false ≡ true = sym (ap not there) ∙ n in absurd (both_ways false refl z)

-- indexes tell blocks apart
pub same_index : (x y : ℕ) (bs : List ℕ) → has x bs ≡ true → has y bs ≡ true → eqb (index x bs) (index y bs) ≡ eqb x y
same_index x y bs h k =
    ⊎_elim
    (λ (e : x ≡ y). eq-eqb (index x bs) (index y bs) (ap (λ v. index v bs) e) ∙ sym (eq-eqb x y e))
    (λ (ne : x ≡ y → ⊥). ne_eqb (index x bs) (index y bs) (λ e. ne (sym (at_index x 0 bs h) ∙ ap (λ i. get_or bs i 0) e ∙ at_index y 0 bs k)) ∙ sym (ne_eqb x y ne))
    (cases_eq x y)

-- the cells of a row that is filled up
pub getD_filled : (n : ℕ) (xs : List ℕ) (i : ℕ) → length xs ≤ n → get_or (filled_up n xs) i 0 ≡ get_or xs i 0
getD_filled zero [] i h = refl
getD_filled zero (x ∷ xs) i h = absurd (omega arith)
getD_filled (suc n) [] zero h = refl
getD_filled (suc n) [] (suc i) h = getD_filled n [] i (omega arith)
getD_filled (suc n) (x ∷ xs) zero h = refl
getD_filled (suc n) (x ∷ xs) (suc i) h = getD_filled n xs i (omega arith)

pub get_d_map : (f : ℕ → ℕ) (xs : List ℕ) (i : ℕ) → i < length xs → get_or (map f xs) i 0 ≡ f (get_or xs i 0)
get_d_map f [] i h = absurd (omega arith)
get_d_map f (x ∷ xs) zero h = refl
get_d_map f (x ∷ xs) (suc i) h = get_d_map f xs i (omega arith)
