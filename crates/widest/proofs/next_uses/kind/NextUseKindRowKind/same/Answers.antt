use Rattle.std.proofs.Common.{sym, ◌∙◌}
use Rattle.widest.specs.Laws.{next_uses_equality}
use Rattle.widest.proofs.next_uses.kind.NextUseKindRowKind.same.Goals as goal

pub returns : goal.returns
returns c =
    let d = next_uses_equality c.args.a.now c.args.b.now in
    (λ t. d.0 (sym c.eq.ensures ∙ t), λ e. c.eq.ensures ∙ d.1 e)
