use Rattle.std.proofs.Common.{sym, ◌∙◌, arith}
use Rattle.bench.specs.Keeping.{setting_in}
use Rattle.bench.proofs.Barring.{short_table, other_sets, other_life, not_barred}
use Rattle.bench.proofs.setup.Setup.bar.Goals as goal

pub returns-then-self-points : goal.returns-then-self-points
returns-then-self-points c =
    let n = c.points.ensures.many in
    (short_table (setting_in c.args.self.now) (omega arith))

pub returns-then-self-parameters : goal.returns-then-self-parameters
returns-then-self-parameters c =
    let n = c.points.ensures.many in
    let e = c.parameters-parameters.ensures in
    (other_sets (setting_in c.args.self.now) (omega arith) (λ h. c.if-self-parameters.true (h ∙ sym e.sets)))

pub returns-then-self-parameters-2 : goal.returns-then-self-parameters-2
returns-then-self-parameters-2 c =
    let n = c.points.ensures.many in
    let e = c.parameters-parameters.ensures in
    (other_life (setting_in c.args.self.now) (omega arith) (c.if-self-parameters.false ∙ e.sets) (λ h. c.if-self-parameters-2.true (h ∙ sym e.ways)))

pub returns : goal.returns
returns c =
    let n = c.points.ensures.many in
    let e = c.parameters-parameters.ensures in
    (not_barred (setting_in c.args.self.now) (omega arith) (c.if-self-parameters.false ∙ e.sets) (c.if-self-parameters-2.false ∙ e.ways))
