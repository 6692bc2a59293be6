use Rattle.std.proofs.Common.{sym, ◌∙◌}
use Rattle.conflicts.specs.Laws.{conflicts_equality}
use Rattle.conflicts.proofs.kind.ConflictKindRowKind.same.Goals as goal

pub returns : goal.returns
returns c =
    let d = conflicts_equality c.args.a.now c.args.b.now in
    (λ t. d.0 (sym c.eq.ensures ∙ t), λ e. c.eq.ensures ∙ d.1 e)
