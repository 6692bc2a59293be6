use Rattle.std.proofs.Common.{◌≡◌, map, take}
use Rattle.recency.specs.Blocks.{set_of}
use Rattle.task.specs.Tasks.{contents}
use Rattle.rowkinds.specs.BlockSets.{filled_up}
use Rattle.rowkinds.proofs.sets.block_sets.Given as goal

-- the sets of the blocks so far
abbrev pub invariant-loop-i : goal.invariant-loop-i
invariant-loop-i l = l.sets ≡ filled_up 64 (map (set_of (contents l.task).sets) (take l.i l.blocks))
