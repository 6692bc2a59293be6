use Rattle.std.proofs.Common.{◌≡◌, ℕ, ◌-◌, length, take, IfOk, string_bytes, ap, ◌∙◌, subst, arith}
use Rattle.task.specs.Tasks.{contents}
use Rattle.task.proofs.Drafting.{kept}
use Rattle.analysis.specs.Sheets.{largest, sheet}
use Rattle.sheettext.specs.Sheets.{analysis_text}
use Rattle.answer.proofs.task_text.Goals as goal

pub slice_bounds-analysis_text-end : goal.slice_bounds-analysis_text-end
slice_bounds-analysis_text-end c =
    let t = contents c.args.task.now in
    let n = c.points-n.ensures.many in
    let few = (kept t c.args.task.now.draft.legal).points_few in
    omega (arith, n, few, c.of-sheet.result.room)

pub returns : goal.returns
returns c =
    let t = contents c.args.task.now in
    let n = c.points-n.ensures.many in
    let k : length c.points-n.result.now - 0 ≡ length t.points = omega (arith, n) in
    let records = c.of-sheet.result.records in
    let e : take (length c.points-n.result.now - 0) records ≡ sheet t = ap (λ (m : ℕ). take m records) k ∙ c.of-sheet.ensures.records in
    let same = ap (λ xs. analysis_text xs c.of-sheet.result.largest c.parameters.result.reload) e
    ∙ ap (λ x. analysis_text (sheet t) x c.parameters.result.reload) c.of-sheet.ensures.most
    ∙ ap (analysis_text (sheet t) (largest (sheet t))) c.parameters.ensures.reload in
    subst (λ x. IfOk c.analysis_text.result (λ s. string_bytes s ≡ x)) same c.analysis_text.ensures
