use Rattle.std.proofs.Common.{None, ap, arith, rules}
use Rattle.cells.proofs.Made.{made_both}
use Rattle.widest.specs.NextUses.{larger, next_uses_row}
use Rattle.widest.proofs.next_uses.kind.NextUseKindRowKind.merge.Goals as goal

pub returns : goal.returns
returns c =
    let a = c.args.a.now.counts in
    let b = c.args.b.now.counts in
    ap next_uses_row (made_both _ _ larger None 64 a b c.from_fn.result (omega arith) (omega arith) (λ i z q l h. search rules) c.from_fn.ensures.items)
