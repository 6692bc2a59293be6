use Rattle.std.proofs.Common.{min, ap, arith, rules}
use Rattle.cells.proofs.Made.{made_both}
use Rattle.rowkinds.specs.Ages.{ages_row}
use Rattle.rowkinds.proofs.ages.kind.AgeKindRowKind.merge.Goals as goal

pub returns : goal.returns
returns c =
    let a = c.args.a.now.ages in
    let b = c.args.b.now.ages in
    ap ages_row (made_both _ _ min 0 64 a b c.from_fn.result (omega arith) (omega arith) (λ i z q l h. search rules) c.from_fn.ensures.items)
