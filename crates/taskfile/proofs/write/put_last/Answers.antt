use Rattle.std.proofs.Common.{[], ◌∷◌}
use Rattle.taskfile.proofs.Filling.{evicting_bytes, last_bytes, two_parts, first_fits, second_fits}
use Rattle.taskfile.proofs.write.put_last.Goals as goal

pub put_all-at-requires : goal.put_all-at-requires
put_all-at-requires c = let blocks = c.args.blocks.now in first_fits (evicting_bytes blocks) (4 ∷ 0 ∷ 0 ∷ []) _ c.args.out.now (last_bytes blocks) c.requires

pub put-requires : goal.put-requires
put-requires c = let blocks = c.args.blocks.now in second_fits (evicting_bytes blocks) (4 ∷ 0 ∷ 0 ∷ []) _ c.args.out.now c.put_all-at.new.out c.put_all-at.result (last_bytes blocks) c.requires c.put_all-at.ensures

pub returns : goal.returns
returns c =
    let blocks = c.args.blocks.now in
    two_parts (evicting_bytes blocks) (4 ∷ 0 ∷ 0 ∷ []) _ c.args.out.now c.put_all-at.new.out c.put.new.out c.put_all-at.result c.put.result (last_bytes blocks) c.requires c.put_all-at.ensures c.put.ensures
