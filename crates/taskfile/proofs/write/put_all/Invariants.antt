use Rattle.std.proofs.Common.{◌≤◌, length, take}
use Rattle.std.specs.List.{flat_map}
use Rattle.taskfile.specs.Answers.{Filled}
use Rattle.taskfile.proofs.write.put_all.Given as goal

-- the fields so far are written
abbrev pub invariant-loop-item : goal.invariant-loop-item
invariant-loop-item g l = Filled (flat_map g.T.AsField.bytes (take l.item-index l.items)) l.initial.out l.out l.at × (l.at ≤ length l.out)
