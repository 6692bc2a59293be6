use Rattle.std.proofs.Common.{vec_items}
use Rattle.runtext.proofs.HexSteps.{Reads}
use Rattle.runtext.proofs.hex.bytes_from_hex.Given as goal

abbrev pub invariant-loop-c : goal.invariant-loop-c
invariant-loop-c l = Reads l.hex (vec_items l.bytes) l.high l.c-index
