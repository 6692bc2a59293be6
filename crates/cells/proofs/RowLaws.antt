-- The laws of cells, and two facts about the advance, are the laws of the kind of rows. Assumes nothing.
use Rattle.std.proofs.Common.{◌≡◌, ℕ, List, replicate, sym, ap, ◌∙◌, subst, inl, inr}
use lib.ListN.{length-replicate}
use Rattle.std.proofs.lemmas.Bool.{cases_lt}
use Rattle.fixpoint.specs.Kinds.{Laws}
use Rattle.cells.specs.Cells.{Cell, CellLaws, OwnRow, EachAtOrBefore, both, total, rows_meaning}
use Rattle.cells.proofs.Lists.{length_both}
use Rattle.cells.proofs.Rows.{own_start, own_both, before_refl, before_trans, before_start, before_left, before_right, before_least, total_rises, total_same, total_within}

-- `back` and `there`: a row is its cells; `owns`: the advance gives own rows; `keeps`: it keeps the order
pub rows_laws : {E R N : Type 0} (C : Cell E) (L : CellLaws C) (size : ℕ) (cells : R → List E) (row : List E → R) (own_note : N → Type 0) (advance : R → N → R)
    → ((xs : List E) → cells (row xs) ≡ xs) → ((r : R) → row (cells r) ≡ r)
    → ((r : R) (n : N) → own_note n → OwnRow C size (cells r) → OwnRow C size (cells (advance r n)))
    → ((a b : R) (n : N) → own_note n → OwnRow C size (cells a) → OwnRow C size (cells b) → EachAtOrBefore C (cells a) (cells b) → EachAtOrBefore C (cells (advance a n)) (cells (advance b n)))
    → Laws (rows_meaning C size cells row own_note advance)
rows_laws {E} {R} C L size cells row own_note advance back there owns keeps =
    let again : (xs : List E) (P : List E → Type 0) → P xs → P (cells (row xs)) = λ xs P p. subst P (sym (back xs)) p in
    let same : (a b : R) → cells a ≡ cells b → a ≡ b = λ a b e. sym (there a) ∙ ap row e ∙ there b in
    record {
      start_own = again (replicate size C.start) (OwnRow C size) (length-replicate {A = E} size C.start, own_start C L 0 size);
      merge_own = λ a b h k. again (both C.merge (cells a) (cells b)) (OwnRow C size) (length_both C.merge (cells a) (cells b) (h.0 ∙ sym k.0) ∙ h.0, own_both C L 0 (cells a) (cells b) h.1 k.1);
      advance_own = λ a n h f. owns a n f h;
      reflexive = λ a h. before_refl C L (cells a);
      transitive = λ a b c h k l u v. before_trans C L (cells a) (cells b) (cells c) u v;
      antisymmetric = λ a b h k u v. same a b (total_same C L 0 (cells a) (cells b) h.1 k.1 u (total_rises C L (cells b) (cells a) v));
      start_least = λ a h. again (replicate size C.start) (λ (xs : List E). EachAtOrBefore C xs (cells a)) (subst (λ (n : ℕ). EachAtOrBefore C (replicate n C.start) (cells a)) h.0 (before_start C L 0 (cells a) h.1));
      merge_left = λ a b h k. again (both C.merge (cells a) (cells b)) (λ (xs : List E). EachAtOrBefore C (cells a) xs) (before_left C L (cells a) (cells b) (h.0 ∙ sym k.0));
      merge_right = λ a b h k. again (both C.merge (cells a) (cells b)) (λ (xs : List E). EachAtOrBefore C (cells b) xs) (before_right C L (cells a) (cells b) (h.0 ∙ sym k.0));
      merge_least = λ a b c h k l u v. again (both C.merge (cells a) (cells b)) (λ (xs : List E). EachAtOrBefore C xs (cells c)) (before_least C L (cells a) (cells b) (cells c) u v);
      advance_keeps_order = λ a b n h k f u. keeps a b n f h k u;
      rank_within = λ a h. total_within C L (cells a) h.1;
      rank_rises = λ a b h k u ne. elim (cases_lt (total C.rank (cells a)) (total C.rank (cells b))) [
        | inl l ↦ l
        | inr le ↦ absurd (ne (same a b (total_same C L 0 (cells a) (cells b) h.1 k.1 u le)))
      ];
    }
