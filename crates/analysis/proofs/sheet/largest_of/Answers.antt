use Rattle.std.proofs.Common.{arith}
use Rattle.std.proofs.lemmas.List.{at_drop_more, at_drop_all}
use Rattle.analysis.specs.Sheets.{largest}
use Rattle.analysis.proofs.sheet.largest_of.Goals as goal

pub loop-numbers-preserved : goal.loop-numbers-preserved
loop-numbers-preserved c =
    let xs = c.args.sheet.now in
    let i = c.loop-numbers.numbers-index in
    let e = at_drop_more largest xs i (record { useful = 0; evicting = 0; combined = 0; resilient = 0 }) c.loop-numbers-test.true in
    omega (arith, c.loop-numbers.invariant, e)

pub returns : goal.returns
returns c =
    let e = at_drop_all largest c.args.sheet.now c.loop-numbers.numbers-index (omega arith) in
    omega (arith, c.loop-numbers.invariant, e)
