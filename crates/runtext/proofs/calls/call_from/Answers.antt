use Rattle.std.proofs.Common.{◌≡◌, ℕ, Some, None, Option, codes, ◌++◌, ◌∙◌}
use Rattle.runtext.proofs.CallSteps.{numbered, step_line, touch_line}
use Rattle.runtext.proofs.calls.call_from.Goals as goal

pub returns-in_err-point : goal.returns-in_err-point
returns-in_err-point c =
    let digits = c.in-Some.digits.now in
    let parts = c.in-Some.ensures.cases in
    let begins : c.args.line.now ≡ codes "step " ++ digits = cc (parts.1.1, parts.2) in
    let none : Option ℕ = None in
    c.from_residual.ensures
    ∙ step_line c.args.line.now digits none begins (numbered 64 digits none (λ r g. g.0) c.in_err-point.ensures.signed c.in_err-point.ensures.plain)

pub returns-in-Some : goal.returns-in-Some
returns-in-Some c =
    let digits = c.in-Some.digits.now in
    let parts = c.in-Some.ensures.cases in
    let begins : c.args.line.now ≡ codes "step " ++ digits = cc (parts.1.1, parts.2) in
    let some : Option ℕ = Some c.in_ok-point.point in
    step_line c.args.line.now digits some begins (numbered 64 digits some (λ r g. g.0) c.in_ok-point.ensures.signed c.in_ok-point.ensures.plain)

pub returns-in_err-block : goal.returns-in_err-block
returns-in_err-block c =
    let digits = c.in-Some-strip_prefix.digits.now in
    let parts = c.in-Some-strip_prefix.ensures.cases in
    let begins : c.args.line.now ≡ codes "touch " ++ digits = cc (parts.1.1, parts.2) in
    let none : Option ℕ = None in
    c.from_residual-in_err-block.ensures
    ∙ touch_line c.args.line.now digits none begins (numbered 32 digits none (λ r g. g.0) c.in_err-block.ensures.signed c.in_err-block.ensures.plain)

pub returns-in-Some-strip_prefix : goal.returns-in-Some-strip_prefix
returns-in-Some-strip_prefix c =
    let digits = c.in-Some-strip_prefix.digits.now in
    let parts = c.in-Some-strip_prefix.ensures.cases in
    let begins : c.args.line.now ≡ codes "touch " ++ digits = cc (parts.1.1, parts.2) in
    let some : Option ℕ = Some c.in_ok-block.block in
    touch_line c.args.line.now digits some begins (numbered 32 digits some (λ r g. g.0) c.in_ok-block.ensures.signed c.in_ok-block.ensures.plain)
