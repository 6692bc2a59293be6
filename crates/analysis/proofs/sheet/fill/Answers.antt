use Rattle.std.proofs.Common.{[], ◌∷◌, ◌++◌, Some, sym, refl, ap, ◌∙◌, subst, arith, length-set}
use Rattle.std.proofs.lemmas.List.{take_more_set}
use Rattle.task.specs.Tasks.{contents}
use Rattle.tables.specs.Answers.{Numbered}
use Rattle.tables.specs.Rows.{rows_of}
use Rattle.analysis.specs.Sheets.{sheet_below}
use Rattle.analysis.proofs.Sheets.{sheet_none, sheet_more}
use Rattle.analysis.proofs.sheet.fill.Goals as goal

pub loop-p-init : goal.loop-p-init
loop-p-init c = record { room = refl; filled = sym (sheet_none _ _) }

pub loop-p-preserved : goal.loop-p-preserved
loop-p-preserved c =
    let t = contents c.args.task.now in
    let rows = rows_of c.args.tables.now in
    let p = c.loop-p.p in
    let v = c.unwrap.result in
    let numbered : Numbered t rows p (Some v) = subst (Numbered t rows p) c.unwrap.ensures c.numbers_at.ensures in
    record {
      room = length-set c.loop-p.sheet p v ∙ c.loop-p.invariant.room;
      filled = take_more_set c.loop-p.sheet p v (omega arith) ∙ ap (λ xs. xs ++ (v ∷ [])) c.loop-p.invariant.filled ∙ ap (λ x. sheet_below t rows p ++ (x ∷ [])) numbered.1 ∙ sym (sheet_more t rows p);
    }
