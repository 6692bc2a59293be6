use Rattle.std.proofs.Common.{slice_index, sym, arith, rules}
use Rattle.std.proofs.lemmas.Bool.{cond-true, lt-ltb}
use Rattle.cells.proofs.Made.{made_each}
use Rattle.rowkinds.specs.Ages.{age_after}
use Rattle.rowkinds.proofs.ages.kind.AgeKindRowKind.advance.Goals as goal

pub returns-in-Some : goal.returns-in-Some
returns-in-Some c =
    let k = c.args.self.now in
    let row = c.args.row.now.ages in
    let after = age_after k.ways k.sets c.in-Some.block (slice_index row c.in-Some.block) in
    let made = made_each _ _ after 0 64 row c.from_fn.result (omega arith) (λ i z q l h. search rules) c.from_fn.ensures.items in
    rw (c.in-Some.is, made) (sym (cond-true _ _ _ (lt-ltb _ _ c.if-block-self.true)))
