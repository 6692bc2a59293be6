use Rattle.std.proofs.Common.{◌≡◌, drop}
use Rattle.recency.specs.Blocks.{has}
use Rattle.cache.proofs.Shift.{pending, shift}
use Rattle.cache.proofs.block_list.methods.move_up.Given as goal

-- the pass is on its way from the list at the entry
abbrev pub invariant-loop-place : goal.invariant-loop-place
invariant-loop-place l = record {
  moved : pending l.block l.carry l.place-index l.place-items ≡ shift l.block l.block l.fn.blocks;
  to_come : has l.block (drop l.place-index l.place-items) ≡ has l.block l.fn.blocks;
}
