use Rattle.std.proofs.Common.{◌≡◌, ◌+◌, length, sym, ap, ◌∙◌, subst, arith, rules}
use Rattle.std.proofs.lemmas.Result.{err_from_is_err_and}
use Rattle.std.proofs.lemmas.Bool.{eqb-true}
use Rattle.fields.specs.Layout.{header, field, field_at}
use Rattle.fields.specs.Said.{field_contents}
use Rattle.fields.specs.declared.Field.{Field}
use Rattle.fields.proofs.Lengths.{field_lengths, field_sized}
use Rattle.task.specs.Contents.{TaskContents}
use Rattle.task.specs.Drafts.{draft_contents}
use Rattle.taskformat.specs.Reading.{closed, is_empty}
use Rattle.taskfile.proofs.Answering.{answered_as}
use Rattle.taskfile.proofs.Fieldwise.{Sofar, started, faulted, refused_here, ended_here, taken_here}
use Rattle.taskfile.proofs.Stepping.{ended_after_point, ended_said, taken_said, as_stepped, went_on, stopped}
use borrow.Author.Tests.{tests}
use Rattle.taskfile.proofs.read.read_fields.Goals as goal

pub fields-init : goal.fields-init
fields-init c =
    let file = c.args.file.now in
    let first = c.in_ok-first.first in
    let body = c.in-Header.body.now in
    let e : field_at 0 file ≡ field (header body) first.place first.after.now = sym c.in_ok-first.ensures ∙ ap (λ (f : Field). field (field_contents f) first.place first.after.now) c.in-Header.is in
    let six = eqb-true (length body) 6 (field_sized 0 file (header body) first.place first.after.now e) in
    let d = c.in_ok-draft.ensures in
    subst (Sofar file 9 first.after.now) (sym d.1) (started file body first.after.now first.place e d.0 six)

pub returns-in_err-taken : goal.returns-in_err-taken
returns-in_err-taken c =
    let p = err_from_is_err_and c.from_residual-in_err-taken.result c.from_residual-in_err-taken.ensures.1 in
    rw (p.1, p.2) (faulted c.args.file.now c.fields.place c.fields.rest.now (draft_contents c.fields.draft) c.fields.invariant _ _ (sym c.in_err-taken.ensures))

pub close-requires : goal.close-requires
close-requires c =
    let t = draft_contents c.fields.draft in
    let p = c.in_ok-progress.progress in
    let r = went_on c.fields.place (λ cause f q. search (rules, tests)) c.step.result c.map_err.result p c.map_err.ensures.cases c.in_ok-progress.was in
    let s = as_stepped _ _ _ _ r c.step.ensures in
    let ends = ended_said p t (draft_contents c.step.new.draft) _ c.in-Ended.is s.step s.kept in
    ap (λ (u : TaskContents). is_empty u.points) ends.1 ∙ ended_after_point t (field_contents c.in_ok-taken.taken.field) ends.0

pub returns-in-Ended : goal.returns-in-Ended
returns-in-Ended c =
    let taken = c.in_ok-taken.taken in
    let t = draft_contents c.fields.draft in
    let p = c.in_ok-progress.progress in
    let r = went_on c.fields.place (λ cause f q. search (rules, tests)) c.step.result c.map_err.result p c.map_err.ensures.cases c.in_ok-progress.was in
    let s = as_stepped _ _ _ _ r c.step.ensures in
    let ends = ended_said p t (draft_contents c.step.new.draft) _ c.in-Ended.is s.step s.kept in
    let e = ended_here c.args.file.now c.fields.place c.fields.rest.now t c.fields.invariant (field_contents taken.field) taken.place taken.after.now (sym c.in_ok-taken.ensures) (sym ends.0) in
    answered_as _ _ _ c.close.result (e ∙ sym (ap (closed (c.fields.place + 3) taken.after.now) ends.1)) c.close.ensures

pub returns-in_err-progress : goal.returns-in_err-progress
returns-in_err-progress c =
    let taken = c.in_ok-taken.taken in
    let p = err_from_is_err_and c.from_residual-in_err-progress.result c.from_residual-in_err-progress.ensures.1 in
    let r = stopped c.fields.place (λ cause f q. search (rules, tests)) c.step.result c.map_err.result _ c.map_err.ensures.cases c.in_err-progress.was in
    let s = as_stepped _ _ _ _ r.1 c.step.ensures in
    rw (p.1, p.2, r.2) (refused_here c.args.file.now c.fields.place c.fields.rest.now (draft_contents c.fields.draft) c.fields.invariant (field_contents taken.field) taken.place taken.after.now (sym c.in_ok-taken.ensures) _ (sym s.step))

pub overflow_sub-place : goal.overflow_sub-place
overflow_sub-place c =
    let taken = c.in_ok-taken.taken in
    omega (arith, (field_lengths c.fields.place c.fields.rest.now (field_contents taken.field) taken.place taken.after.now (sym c.in_ok-taken.ensures)).1)

pub fields-smaller : goal.fields-smaller
fields-smaller c =
    let taken = c.in_ok-taken.taken in
    omega (arith, (field_lengths c.fields.place c.fields.rest.now (field_contents taken.field) taken.place taken.after.now (sym c.in_ok-taken.ensures)).1)

pub fields-preserved : goal.fields-preserved
fields-preserved c =
    let taken = c.in_ok-taken.taken in
    let u = draft_contents c.step.new.draft in
    let p = c.in_ok-progress.progress in
    let r = went_on c.fields.place (λ cause f q. search (rules, tests)) c.step.result c.map_err.result p c.map_err.ensures.cases c.in_ok-progress.was in
    let s = as_stepped _ _ _ _ r c.step.ensures in
    taken_here c.args.file.now c.fields.place c.fields.rest.now (draft_contents c.fields.draft) c.fields.invariant (field_contents taken.field) taken.place taken.after.now (sym c.in_ok-taken.ensures) u
    (sym (taken_said p u _ c.in_default-progress.is s.step))
