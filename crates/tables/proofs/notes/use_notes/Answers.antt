use Rattle.std.proofs.Common.{◌≡◌, ℕ, ◌<◌, ◌≤◌, List, [], length, get_or, take, None, Option, sym, ap, ◌∙◌, subst, arith, rules}
use Rattle.std.specs.List.{slice_get}
use Rattle.std.specs.Option.{option_and_then}
use Rattle.widest.specs.declared.next_uses.NextUse.{NextUse}
use Rattle.std.proofs.lemmas.List.{get_or-take, length-take-le}
use Rattle.std.proofs.lemmas.Option.{slice_get-get_or}
use Rattle.cells.proofs.Made.{made_first}
use Rattle.conflicts.specs.Conflicts.{conflicts_row}
use Rattle.conflicts.specs.declared.Conflicts.{Conflicts}
use Rattle.tables.specs.Tables.{use_note, use_notes}
use Rattle.tables.proofs.OwnNotes.{length_use_notes, use_notes_at}
use Rattle.tables.proofs.notes.use_notes.Goals as goal

-- the note of a point that has a row
abbrev at : (rows : List Conflicts) (notes : List (Option ℕ)) (p : ℕ) → Option NextUse
at rows notes p = option_and_then (λ row. use_note row (get_or notes p None)) (slice_get rows p)

at_is : (rows : List Conflicts) (notes : List (Option ℕ)) (n p : ℕ) → n ≤ length rows → n ≤ length notes → p < n → at rows notes p ≡ get_or (use_notes (take n rows) (take n notes)) p None
at_is rows notes n p a b h =
    let d = conflicts_row [] in
    let l = length-take-le n rows a in
    let m = length-take-le n notes b in
    ap (option_and_then (λ row. use_note row (get_or notes p None))) (slice_get-get_or rows p d (omega arith))
    ∙ sym (use_notes_at (take n rows) (take n notes) p d (omega arith) (omega arith)
    ∙ ap (λ row. use_note row (get_or (take n notes) p None)) (get_or-take n rows p d h)
    ∙ ap (use_note (get_or rows p d)) (get_or-take n notes p None h))

pub returns : goal.returns
returns c =
    let rows = c.args.rows.now.rows.now in
    let notes = c.args.notes.now in
    record {
      room = c.from_fn.ensures.items.long;
      notes = λ n few filled.
          let all = use_notes (take n rows) (take n notes) in
          let l = length-take-le n rows filled in
          let m = length-take-le n notes (omega arith) in
          let long = length_use_notes (take n rows) (take n notes) (omega arith) in
          subst (λ (k : ℕ). take k c.from_fn.result ≡ all) (long ∙ m)
          (made_first _ _ (at rows notes) None 128 all c.from_fn.result (omega arith) (λ p z q k h. search rules) (λ p k. at_is rows notes n p filled (omega arith) (omega arith)) c.from_fn.ensures.items);
    }
