-- The laws of ages. Assumes nothing.
use Rattle.std.specs.Prelude.{ℕ, zero, suc, ◌<◌, ◌≤◌, Bool, true, false, cond, ◌&&◌, List, [], ◌∷◌, Some, None, Option, ◌==◌, nat_le, nat_lt, slice_index, slice_index_or, refl}
use lib.Pointwise.{pointwise}
use Rattle.std.proofs.Common.{◌≡◌, eqb, Decides, ap, ◌∙◌, arith}
use Rattle.std.proofs.lemmas.Bool.{cond_both, eqb-true}
use Rattle.std.proofs.lemmas.Bool.Decides.{nat_tests, Decides-eqb}
use Rattle.std.proofs.lemmas.Slice.Eq.{slice_eq-Decides}
use Rattle.fixpoint.specs.Kinds.{Laws}
use Rattle.cells.specs.Cells.{CellLaws, OwnRow, EachAtOrBefore, each}
use Rattle.cells.proofs.Lists.{length_each}
use Rattle.cells.proofs.Rows.{own_each, before_each}
use Rattle.cells.proofs.RowLaws.{rows_laws}
use Rattle.cells.proofs.Tells.{rows_tell}
use Rattle.fixpoint.proofs.Always.{RankTells}
use Rattle.rowkinds.specs.Ages.{grown, age_after, OwnAge, age_cell, age_list, ages_row, OwnAccess, ages_after, ages_meaning}
use Rattle.rowkinds.specs.declared.ages.Ages.{Ages}

module _ (ways n : ℕ) (sets : List ℕ) where
  age_laws : CellLaws (age_cell ways n)
  age_laws = record {
    start_own = λ i. (omega arith, λ _. refl);
    merge_own = λ i a b h k. (let p = h.0 in let q = k.0 in omega arith, λ l. let p = h.1 l in let q = k.1 l in omega arith);
    reflexive = λ a. omega arith;
    transitive = λ a b c u v. omega arith;
    start_least = λ i a h. h.0;
    merge_left = λ a b. omega arith;
    merge_right = λ a b. omega arith;
    merge_least = λ a b c u v. omega arith;
    rank_keeps_order = λ a b u. omega arith;
    rank_same = λ i a b h k u l. let p = h.0 in let q = k.0 in omega arith;
    rank_within = λ i a h. omega arith;
    rank_past = λ i a h l. let p = h.1 l in omega arith;
  }

  after_own : (b old i age : ℕ) → b < n → OwnAge ways n i age → OwnAge ways n i (age_after ways sets b old i age)
  after_own b old i age l h =
      cond_both (i == b) _ _ (OwnAge ways n i)
      (λ e. let q = eqb-true i b e in (omega arith, λ k. absurd (omega arith)))
      (λ e. cond_both (slice_index sets i == slice_index sets b && nat_le age old) _ _ (OwnAge ways n i) (λ f. (omega arith, λ k. let q = h.1 k in omega arith)) (λ f. h))

  -- the later row has the smaller ages, that of the accessed block too
  grown_keeps : (same_set : Bool) (old new x y : ℕ) → new ≤ old → y ≤ ways → y ≤ x → grown ways same_set new y ≤ grown ways same_set old x
  grown_keeps true old new x y p w u = grind (arith, nat_tests)
  grown_keeps false old new x y p w u = u

  after_keeps : (b old new i x y : ℕ) → new ≤ old → OwnAge ways n i y → y ≤ x → age_after ways sets b new i y ≤ age_after ways sets b old i x
  after_keeps b old new i x y p h u =
      elim (i == b) as (λ v. cond v 0 (grown ways (slice_index sets i == slice_index sets b) new y) ≤ cond v 0 (grown ways (slice_index sets i == slice_index sets b) old x)) [
        | true ↦ omega arith
        | false ↦ grown_keeps (slice_index sets i == slice_index sets b) old new x y p h.0 u
      ]

  at_index : (k : ℕ) (xs ys : List ℕ) → EachAtOrBefore (age_cell ways n) xs ys → slice_index ys k ≤ slice_index xs k
  at_index k [] [] u = omega arith
  at_index k [] (y ∷ ys) u = absurd u
  at_index k (x ∷ xs) [] u = absurd u
  at_index zero (x ∷ xs) (y ∷ ys) u = u.0
  at_index (suc k) (x ∷ xs) (y ∷ ys) u = at_index k xs ys u.1

  owns : (r : Ages) (m : Option ℕ) → OwnAccess n m → OwnRow (age_cell ways n) 64 (age_list r) → OwnRow (age_cell ways n) 64 (age_list (ages_after ways n sets r m))
  owns r None f h = h
  owns r (Some b) f h =
      let g = age_after ways sets b (slice_index r.ages b) in
      elim (nat_lt b n) as (λ v. OwnRow (age_cell ways n) 64 (age_list (cond v (ages_row (each g 0 r.ages)) r))) [
        | true ↦ (length_each g 0 r.ages ∙ h.0, own_each (age_cell ways n) age_laws g (λ i x k. after_own b (slice_index r.ages b) i x f k) 0 r.ages h.1)
        | false ↦ h
      ]

  keeps : (p q : Ages) (m : Option ℕ) → OwnAccess n m → OwnRow (age_cell ways n) 64 (age_list p) → OwnRow (age_cell ways n) 64 (age_list q) → EachAtOrBefore (age_cell ways n) (age_list p) (age_list q)
      → EachAtOrBefore (age_cell ways n) (age_list (ages_after ways n sets p m)) (age_list (ages_after ways n sets q m))
  keeps p q None f h k u = u
  keeps p q (Some b) f h k u =
      let old = slice_index_or p.ages b 0 in
      let new = slice_index_or q.ages b 0 in
      elim (nat_lt b n) as (λ v. EachAtOrBefore (age_cell ways n) (age_list (cond v (ages_row (each (age_after ways sets b old) 0 p.ages)) p)) (age_list (cond v (ages_row (each (age_after ways sets b new) 0 q.ages)) q))) [
        | true ↦ before_each (age_cell ways n) age_laws (age_after ways sets b old) (age_after ways sets b new) (λ i x y s t v. after_keeps b old new i x y (at_index b p.ages q.ages u) t v) 0 p.ages q.ages h.1 k.1 u
        | false ↦ u
      ]

pub ages_laws : (ways n : ℕ) (sets : List ℕ) → Laws (ages_meaning ways n sets)
ages_laws ways n sets = rows_laws (age_cell ways n) (age_laws ways n sets) 64 age_list ages_row (OwnAccess n) (ages_after ways n sets) (λ xs. refl) (λ r. refl) (owns ways n sets) (keeps ways n sets)

pub ages_tell : (ways n : ℕ) (sets : List ℕ) → RankTells (ages_meaning ways n sets)
ages_tell ways n sets = rows_tell (age_cell ways n) (age_laws ways n sets) 64 age_list ages_row (OwnAccess n) (ages_after ways n sets) (λ r. refl)

-- rows are equal where their ages are
pub ages_equality : (a b : Ages) → Decides (pointwise eqb a.ages b.ages) (a ≡ b)
ages_equality a b =
    let d = slice_eq-Decides Decides-eqb a.ages b.ages (pointwise eqb a.ages b.ages) refl in
    (λ t. ap ages_row (d.0 t), λ e. d.1 (ap age_list e))
