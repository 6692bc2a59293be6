use Rattle.std.proofs.Common.{None, sym, arith, rules}
use Rattle.std.proofs.lemmas.Bool.{cond-true, lt-ltb}
use Rattle.cells.proofs.Made.{made_each}
use Rattle.conflicts.specs.Conflicts.{conflict_after}
use Rattle.conflicts.proofs.kind.ConflictKindRowKind.advance.Goals as goal

pub returns-in-Some : goal.returns-in-Some
returns-in-Some c =
    let after = conflict_after c.args.self.now.sets c.in-Some.block in
    let made = made_each _ _ after None 64 c.args.row.now.conflicts c.from_fn.result (omega arith) (λ i z q l h. search rules) c.from_fn.ensures.items in
    rw (c.in-Some.is, made) (sym (cond-true _ _ _ (lt-ltb _ _ c.if-block-self.true)))
