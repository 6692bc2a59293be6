-- Reading the rows of a point. Assumes nothing.
use Rattle.std.proofs.Common.{◌≡◌, ℕ, zero, suc, ◌<◌, ◌≤◌, List, [], ◌∷◌, length, get_or, Some, None, Option, ap, ◌∙◌, arith}
use Rattle.std.specs.List.{slice_get}
use Rattle.task.specs.Blocks.{access_at, access_index}
use Rattle.task.specs.Contents.{TaskContents}
use Rattle.rowkinds.specs.Ages.{ages_meaning}
use Rattle.rowkinds.specs.BlockSets.{block_sets, filled_up}
use Rattle.rowkinds.specs.declared.ages.Ages.{Ages}
use Rattle.conflicts.specs.declared.Conflicts.{Conflicts}
use Rattle.numbers.specs.Numbers.{numbers, view}
use Rattle.widest.specs.declared.next_uses.NextUses.{NextUses}
use Rattle.tables.specs.Tables.{age_kind, blocks, conflict_kind, next_use_kind, use_note}
use Rattle.tables.specs.Rows.{Rows, numbers_at}

module _ {X : Type 0} where
  pub there : (xs : List X) (p : ℕ) (x : X) → slice_get xs p ≡ Some x → p < length xs
  there [] p x e = let z : ◌≡◌ {A = ℕ} 0 1 = cc in absurd (omega arith)
  there (y ∷ ys) zero x e = omega arith
  there (y ∷ ys) (suc p) x e = let h = there ys p x e in omega arith

  pub there_is : (xs : List X) (p : ℕ) (x d : X) → slice_get xs p ≡ Some x → x ≡ get_or xs p d
  there_is [] p x d e = let z : ◌≡◌ {A = ℕ} 0 1 = cc in absurd (omega arith)
  there_is (y ∷ ys) zero x d e = cc
  there_is (y ∷ ys) (suc p) x d e = there_is ys p x d e

  pub past : (xs : List X) (p : ℕ) → slice_get xs p ≡ None → length xs ≤ p
  past [] p e = omega arith
  past (y ∷ ys) zero e = let z : ◌≡◌ {A = ℕ} 0 1 = cc in absurd (omega arith)
  past (y ∷ ys) (suc p) e = let h = past ys p e in omega arith

-- the age rule of a task, from its parts
pub same_advance : (t : TaskContents) (ways n : ℕ) (sets : List ℕ) → ways ≡ t.ways → n ≡ length (blocks t) → sets ≡ filled_up 64 (block_sets t) → (r : Ages) (note : Option ℕ) → (ages_meaning ways n sets).advance r note ≡ (age_kind t).advance r note
same_advance t ways n sets e f g r note =
    ap (λ w. (ages_meaning w n sets).advance r note) e
    ∙ ap (λ k. (ages_meaning t.ways k sets).advance r note) f
    ∙ ap (λ s. (ages_meaning t.ways (length (blocks t)) s).advance r note) g

pub numbered : (t : TaskContents) (rows : Rows) (p : ℕ) (a r : Ages) (c : Conflicts) (w : NextUses) → slice_get rows.ages p ≡ Some a → slice_get rows.reuses p ≡ Some r → slice_get rows.conflicts p ≡ Some c → slice_get rows.widest p ≡ Some w → (note : Option ℕ) → note ≡ access_index (blocks t) (access_at t.points p) → numbers t (view a ((age_kind t).advance r note) ((next_use_kind t).advance w (use_note c note))) ≡ numbers_at t rows p
numbered t rows p a r c w ea er ec ew note en =
    ap (λ x. numbers t (view x ((age_kind t).advance r note) ((next_use_kind t).advance w (use_note c note)))) (there_is rows.ages p a (age_kind t).start ea)
    ∙ ap (λ x. numbers t (view (get_or rows.ages p (age_kind t).start) ((age_kind t).advance x note) ((next_use_kind t).advance w (use_note c note)))) (there_is rows.reuses p r (age_kind t).start er)
    ∙ ap (λ x. numbers t (view (get_or rows.ages p (age_kind t).start) ((age_kind t).advance (get_or rows.reuses p (age_kind t).start) note) ((next_use_kind t).advance w (use_note x note)))) (there_is rows.conflicts p c (conflict_kind t).start ec)
    ∙ ap (λ x. numbers t (view (get_or rows.ages p (age_kind t).start) ((age_kind t).advance (get_or rows.reuses p (age_kind t).start) note) ((next_use_kind t).advance x (use_note (get_or rows.conflicts p (conflict_kind t).start) note)))) (there_is rows.widest p w (next_use_kind t).start ew)
    ∙ ap (λ x. numbers t (view (get_or rows.ages p (age_kind t).start) ((age_kind t).advance (get_or rows.reuses p (age_kind t).start) x) ((next_use_kind t).advance (get_or rows.widest p (next_use_kind t).start) (use_note (get_or rows.conflicts p (conflict_kind t).start) x)))) en
