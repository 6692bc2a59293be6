use Rattle.task.specs.Meaning.{all_contents}
use Rattle.fixpoint.specs.Rounds.{job_of}
use Rattle.fixpoint.proofs.Idle.{Along}
use Rattle.fixpoint.proofs.solve.Solver.go_round.Given as goal

abbrev pub invariant-loop-k : goal.invariant-loop-k
invariant-loop-k g l = Along (g.K.RowKind.meaning l.self.kind.now) (job_of l.self.direction (all_contents l.self.points.now) l.self.notes.now) l.initial.rows l.rows l.k l.changed
