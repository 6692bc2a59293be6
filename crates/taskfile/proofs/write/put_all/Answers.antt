use Rattle.std.proofs.Common.{length, ap, arith}
use Rattle.std.proofs.lemmas.List.{take_all}
use Rattle.std.specs.List.{flat_map}
use Rattle.taskfile.proofs.Filling.{filled_as, next_fits_behind, next_filled}
use Rattle.taskfile.proofs.write.put_all.Goals as goal

pub put_field-at-requires : goal.put_field-at-requires
put_field-at-requires g c =
    let bytes = g.T.AsField.bytes in
    let p = c.item-item.result in
    let e = ap (λ q. length (bytes q)) c.item-item.is in
    let f = next_fits_behind bytes c.args.items.now c.loop-item.item-index p c.loop-item.at c.loop-item.out c.args.out.now c.loop-item-test.true c.loop-item.invariant.0 c.loop-item.auto.out c.requires in
    omega arith

pub loop-item-preserved : goal.loop-item-preserved
loop-item-preserved g c =
    let bytes = g.T.AsField.bytes in
    let p = c.item-item.result in
    next_filled bytes c.args.items.now c.loop-item.item-index p c.loop-item.at c.loop-item.out c.args.out.now c.loop-item-test.true c.loop-item.invariant.0 c.loop-item.auto.out c.requires
    c.put_field-at.result c.put_field-at.new.out (filled_as _ _ _ _ _ (ap bytes c.item-item.is) c.put_field-at.ensures)

pub returns : goal.returns
returns g c =
    filled_as _ _ c.args.out.now c.loop-item.out c.loop-item.at (ap (flat_map g.T.AsField.bytes) (take_all c.loop-item.item-index c.args.items.now c.loop-item-test.false)) c.loop-item.invariant.0
