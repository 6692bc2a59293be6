use Rattle.std.proofs.Common.{◌≡◌}
use Rattle.plru.specs.Tree.{led_to}
use Rattle.plru.proofs.tree.Tree.victim.Given as goal

abbrev pub invariant-loop-level : goal.invariant-loop-level
invariant-loop-level l = l.place ≡ led_to l.bits l._level
