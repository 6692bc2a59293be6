-- The laws of widest next uses. Assumes nothing.
use Rattle.std.specs.Prelude.{◌≡◌, ℕ, ◌+◌, ◌≤◌, max, true, false, cond, Some, None, Option, nat_lt, slice_set, refl}
use lib.Pointwise.{pointwise}
use Rattle.std.proofs.Common.{Decides, eqb, ap, ◌∙◌, arith, length-set}
use Rattle.std.specs.Option.{option_eq}
use Rattle.std.proofs.lemmas.Bool.Decides.{Decides-eqb}
use Rattle.fixpoint.specs.Kinds.{Laws}
use Rattle.cells.specs.Cells.{CellLaws, OwnRow, EachAtOrBefore}
use Rattle.cells.proofs.Matching.{matches_by}
use Rattle.cells.proofs.Rows.{own_set, before_set}
use Rattle.cells.proofs.RowLaws.{rows_laws}
use Rattle.cells.proofs.Tells.{rows_tell}
use Rattle.fixpoint.proofs.Always.{RankTells}
use Rattle.widest.specs.NextUses.{level, larger, Below, OwnCount, count_cell, count_list, next_uses_row, OwnUse, next_uses_after, next_uses_meaning}
use Rattle.widest.specs.declared.next_uses.NextUses.{NextUses}
use Rattle.widest.specs.declared.next_uses.NextUse.{NextUse}

level_larger : (a b : Option ℕ) → level (larger a b) ≡ max (level a) (level b)
level_larger None b = omega arith
level_larger (Some j) None = omega arith
level_larger (Some j) (Some k) = omega arith

same_level : (a b : Option ℕ) → level a ≡ level b → a ≡ b
same_level None None e = refl
same_level None (Some k) e = absurd (omega arith)
same_level (Some j) None e = absurd (omega arith)
same_level (Some j) (Some k) e = ap Some (omega arith)

module _ (n : ℕ) where
  below_larger : (a b : Option ℕ) → Below n a → Below n b → Below n (larger a b)
  below_larger None b h k = k
  below_larger (Some i) None h k = h
  below_larger (Some i) (Some j) h k = omega arith

  level_within : (a : Option ℕ) → Below n a → level a ≤ n
  level_within None h = omega arith
  level_within (Some k) h = h

  none_larger : (a b : Option ℕ) → a ≡ None → b ≡ None → larger a b ≡ None
  none_larger a b e f = ap (λ (x : Option ℕ). larger x b) e ∙ f

  count_laws : CellLaws (count_cell n)
  count_laws = record {
    start_own = λ i. (tt, λ _. refl);
    merge_own = λ i a b h k. (below_larger a b h.0 k.0, λ l. none_larger a b (h.1 l) (k.1 l));
    reflexive = λ a. omega arith;
    transitive = λ a b c u v. omega arith;
    start_least = λ i a h. omega arith;
    merge_left = λ a b. let e = level_larger a b in omega arith;
    merge_right = λ a b. let e = level_larger a b in omega arith;
    merge_least = λ a b c u v. let e = level_larger a b in omega arith;
    rank_keeps_order = λ a b u. u;
    rank_same = λ i a b h k u l. same_level a b (omega arith);
    rank_within = λ i a h. level_within a h.0;
    rank_past = λ i a h l. ap level (h.1 l);
  }

  -- the count of an own access is an own count at the block's index
  own_put : (u : NextUse) → OwnUse n (Some u) → OwnCount n (0 + u.block) u.conflicts
  own_put u f = (f.1, λ l. absurd (let p = f.0 in omega arith))

  owns : (r : NextUses) (m : Option NextUse) → OwnUse n m → OwnRow (count_cell n) 64 (count_list r) → OwnRow (count_cell n) 64 (count_list (next_uses_after n r m))
  owns r None f h = h
  owns r (Some u) f h =
      elim (nat_lt u.block n) as (λ v. OwnRow (count_cell n) 64 (count_list (cond v (next_uses_row (slice_set r.counts u.block u.conflicts)) r))) [
        | true ↦ (length-set r.counts u.block u.conflicts ∙ h.0, own_set (count_cell n) count_laws 0 u.block r.counts u.conflicts (own_put u f) h.1)
        | false ↦ h
      ]

  keeps : (p q : NextUses) (m : Option NextUse) → OwnUse n m → OwnRow (count_cell n) 64 (count_list p) → OwnRow (count_cell n) 64 (count_list q) → EachAtOrBefore (count_cell n) (count_list p) (count_list q)
      → EachAtOrBefore (count_cell n) (count_list (next_uses_after n p m)) (count_list (next_uses_after n q m))
  keeps p q None f h k u = u
  keeps p q (Some a) f h k u =
      elim (nat_lt a.block n) as (λ v. EachAtOrBefore (count_cell n) (count_list (cond v (next_uses_row (slice_set p.counts a.block a.conflicts)) p)) (count_list (cond v (next_uses_row (slice_set q.counts a.block a.conflicts)) q))) [
        | true ↦ before_set (count_cell n) count_laws a.block p.counts q.counts a.conflicts u
        | false ↦ u
      ]

pub next_uses_laws : (n : ℕ) → Laws (next_uses_meaning n)
next_uses_laws n = rows_laws (count_cell n) (count_laws n) 64 count_list next_uses_row (OwnUse n) (next_uses_after n) (λ xs. refl) (λ r. refl) (owns n) (keeps n)

pub next_uses_tell : (n : ℕ) → RankTells (next_uses_meaning n)
next_uses_tell n = rows_tell (count_cell n) (count_laws n) 64 count_list next_uses_row (OwnUse n) (next_uses_after n) (λ r. refl)

-- rows are equal where their counts are
pub next_uses_equality : (a b : NextUses) → Decides (pointwise (option_eq eqb) a.counts b.counts) (a ≡ b)
next_uses_equality a b =
    let d = matches_by eqb Decides-eqb a.counts b.counts (pointwise (option_eq eqb) a.counts b.counts) refl in
    (λ t. ap next_uses_row (d.0 t), λ e. d.1 (ap count_list e))
