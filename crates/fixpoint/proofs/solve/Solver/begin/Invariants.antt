use Rattle.std.proofs.Common.{◌≡◌, take, replicate}
use Rattle.fixpoint.proofs.solve.Solver.begin.Given as goal

abbrev pub invariant-loop-row : goal.invariant-loop-row
invariant-loop-row g l = take l.row-index l.row-items ≡ replicate l.row-index (g.K.RowKind.meaning l.self.kind.now).start
