use Rattle.std.proofs.Common.{None, ap, arith, rules}
use Rattle.cells.proofs.Made.{made_both}
use Rattle.conflicts.specs.Conflicts.{union_of, conflicts_row}
use Rattle.conflicts.proofs.kind.ConflictKindRowKind.merge.Goals as goal

pub returns : goal.returns
returns c =
    let a = c.args.a.now.conflicts in
    let b = c.args.b.now.conflicts in
    ap conflicts_row (made_both _ _ union_of None 64 a b c.from_fn.result (omega arith) (omega arith) (λ i z q l h. search rules) c.from_fn.ensures.items)
