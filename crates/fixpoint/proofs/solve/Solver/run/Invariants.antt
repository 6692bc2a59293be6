use Rattle.std.proofs.Common.{◌≡◌, ◌-◌}
use Rattle.task.specs.Meaning.{all_contents}
use Rattle.fixpoint.specs.Rounds.{after_rounds, job_of}
use Rattle.fixpoint.proofs.Ranks.{Moving}
use Rattle.fixpoint.proofs.solve.Solver.run.Given as goal

-- each round before this one changed something
abbrev pub invariant-loop-round : goal.invariant-loop-round
invariant-loop-round g l =
    let M = g.K.RowKind.meaning l.self.kind.now in
    let J = job_of l.self.direction (all_contents l.self.points.now) l.self.notes.now in
    (l.rows ≡ after_rounds M J (l.round - 1)) × Moving M J (l.round - 1)
