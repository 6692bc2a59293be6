use Rattle.std.proofs.Common.{◌≡◌}
use Rattle.task.specs.Meaning.{all_contents}
use Rattle.fixpoint.specs.Rounds.{job_of, merged_below}
use Rattle.fixpoint.proofs.solve.Solver.gather.Given as goal

abbrev pub invariant-loop-q : goal.invariant-loop-q
invariant-loop-q g l = l.all ≡ merged_below (g.K.RowKind.meaning l.self.kind.now) (job_of l.self.direction (all_contents l.self.points.now) l.self.notes.now) l.rows l.p l.q
