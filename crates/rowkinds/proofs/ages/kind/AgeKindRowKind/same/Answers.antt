use Rattle.std.proofs.Common.{sym, ◌∙◌}
use Rattle.rowkinds.specs.Laws.{ages_equality}
use Rattle.rowkinds.proofs.ages.kind.AgeKindRowKind.same.Goals as goal

pub returns : goal.returns
returns c =
    let d = ages_equality c.args.a.now c.args.b.now in
    (λ t. d.0 (sym c.eq.ensures ∙ t), λ e. c.eq.ensures ∙ d.1 e)
