use Rattle.std.proofs.Common.{◌≡◌, ℕ, ◌-◌, ◌++◌, length, drop, ap, ◌∙◌, arith}
use borrow.Rule.Slice.PartMut.{post_of}
use Rattle.std.proofs.lemmas.List.{take_at}
use Rattle.std.proofs.lemmas.Slice.{drop-append-drop}
use Rattle.task.specs.Tasks.{contents}
use Rattle.task.proofs.Drafting.{kept}
use Rattle.tables.specs.Rows.{rows_of}
use Rattle.analysis.specs.Sheets.{largest}
use Rattle.analysis.proofs.Sheets.{settled_sheet}
use Rattle.analysis.proofs.analyse.Goals as goal

pub returns : goal.returns
returns c =
    let t = contents c.args.task.now in
    let k = length t.points in
    let n = c.points-n.ensures.many in
    let before = c.args.sheet.now in
    let records = c.fill.new.sheet in
    let all = c.in_ok-rounds.ensures.answer in
    let filled = c.fill.ensures ∙ settled_sheet t (rows_of c.args.tables.now) (rows_of c.settle.new.self) c.in_ok-rounds.rounds all (kept t c.args.task.now.draft.legal).blocks_few in
    let same : length c.points-n.result.now - 0 ≡ k = omega (arith, n) in
    let len : length records ≡ k = omega (arith, n, c.fill.auto.sheet, c.if-sheet-n.false) in
    record {
      answer = record {
        tables = all;
        room = omega (arith, n, c.if-sheet-n.false);
        records = take_at records (post_of 0 (length c.points-n.result.now - 0) before) k len ∙ filled;
        rest = ap (λ (m : ℕ). drop k (records ++ post_of 0 m before)) same ∙ drop-append-drop k before records k (omega (arith, n, c.if-sheet-n.false)) len;
        most = c.largest_of.ensures ∙ ap largest filled;
      };
      lent = c.settle.ensures.lent;
    }
