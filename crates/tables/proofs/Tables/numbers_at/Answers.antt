use Rattle.std.proofs.Common.{◌≡◌, sym, ap, ◌∙◌, subst, arith}
use Rattle.task.specs.Tasks.{contents}
use Rattle.numbers.specs.Numbers.{numbers, view}
use Rattle.rowkinds.specs.Ages.{ages_meaning}
use Rattle.widest.specs.NextUses.{next_uses_meaning}
use Rattle.tables.specs.Answers.{Numbered}
use Rattle.tables.specs.Rows.{rows_of}
use Rattle.tables.specs.Tables.{age_kind, next_use_kind, use_note}
use Rattle.tables.proofs.Reading.{there, past, same_advance, numbered}
use Rattle.tables.proofs.Tables.numbers_at.Goals as goal

pub returns-in_err-ages : goal.returns-in_err-ages
returns-in_err-ages c =
    let h = past c.args.self.now.ages.rows.now c.args.p (sym c.row.ensures ∙ c.in_err-ages.was) in
    subst (Numbered (contents c.args.task.now) (rows_of c.args.self.now) c.args.p) (sym c.from_residual.ensures) (omega (arith, h))

pub returns-in_err-reuses : goal.returns-in_err-reuses
returns-in_err-reuses c =
    let h = past c.args.self.now.reuses.rows.now c.args.p (sym c.row-2.ensures ∙ c.in_err-reuses.was) in
    subst (Numbered (contents c.args.task.now) (rows_of c.args.self.now) c.args.p) (sym c.from_residual-in_err-reuses.ensures) (omega (arith, h))

pub returns-in_err-conflicts : goal.returns-in_err-conflicts
returns-in_err-conflicts c =
    let h = past c.args.self.now.conflicts.rows.now c.args.p (sym c.row-3.ensures ∙ c.in_err-conflicts.was) in
    subst (Numbered (contents c.args.task.now) (rows_of c.args.self.now) c.args.p) (sym c.from_residual-in_err-conflicts.ensures) (omega (arith, h))

pub returns-in_err-widest : goal.returns-in_err-widest
returns-in_err-widest c =
    let h = past c.args.self.now.widest.rows.now c.args.p (sym c.row-4.ensures ∙ c.in_err-widest.was) in
    subst (Numbered (contents c.args.task.now) (rows_of c.args.self.now) c.args.p) (sym c.from_residual-in_err-widest.ensures) (omega (arith, h))

pub returns : goal.returns
returns c =
    let t = contents c.args.task.now in
    let p = c.args.p in
    let here = c.args.self.now in
    let note = c.block_index-note.result in
    let a = sym c.row.ensures ∙ c.in_ok-ages.was in
    let r = sym c.row-2.ensures ∙ c.in_ok-reuses.was in
    let k = sym c.row-3.ensures ∙ c.in_ok-conflicts.was in
    let w = sym c.row-4.ensures ∙ c.in_ok-widest.was in
    let ages = c.in_ok-ages.ages in
    let advanced : c.advance.result ≡ (ages_meaning c.of.result.ways c.of.result.blocks c.of.result.sets).advance c.in_ok-reuses.reuses note = c.advance.ensures in
    let reuses = advanced ∙ same_advance t c.of.result.ways c.of.result.blocks c.of.result.sets c.of.ensures.ways c.of.ensures.blocks c.of.ensures.sets c.in_ok-reuses.reuses note in
    let used : c.use_note.result ≡ use_note c.in_ok-conflicts.conflicts note = c.use_note.ensures in
    let widest =
    c.advance-2.ensures
    ∙ ap (λ n. (next_uses_meaning n).advance c.in_ok-widest.widest c.use_note.result) c.of-2.ensures
    ∙ ap ((next_use_kind t).advance c.in_ok-widest.widest) used in
    let value : c.point_numbers.result ≡ numbers t (view ages c.advance.result c.advance-2.result) = c.point_numbers.ensures in (
      omega (arith, there here.ages.rows.now p ages a, there here.reuses.rows.now p c.in_ok-reuses.reuses r, there here.conflicts.rows.now p c.in_ok-conflicts.conflicts k, there here.widest.rows.now p c.in_ok-widest.widest w),
      value
          ∙ ap (λ x. numbers t (view ages x c.advance-2.result)) reuses
          ∙ ap (λ x. numbers t (view ages ((age_kind t).advance c.in_ok-reuses.reuses note) x)) widest
          ∙ numbered t (rows_of here) p ages c.in_ok-reuses.reuses c.in_ok-conflicts.conflicts c.in_ok-widest.widest a r k w note c.block_index-note.ensures,
    )
