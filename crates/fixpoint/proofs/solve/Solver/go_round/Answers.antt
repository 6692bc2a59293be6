use Rattle.std.proofs.Common.{sym, ap, ◌∙◌, arith}
use lib.ListN.{length-map}
use Rattle.task.specs.Meaning.{all_contents, point_contents}
use Rattle.fixpoint.specs.Graph.{visited_at}
use Rattle.fixpoint.specs.Rounds.{job_of, visits}
use Rattle.fixpoint.proofs.Idle.{along_none, along_more, turned}
use Rattle.fixpoint.proofs.solve.Solver.go_round.Goals as goal

pub loop-k-init : goal.loop-k-init
loop-k-init g c = along_none _ _ _

pub loop-k-preserved : goal.loop-k-preserved
loop-k-preserved g c =
    let s = c.args.self.now in
    let M = g.K.RowKind.meaning s.kind.now in
    let J = job_of s.direction (all_contents s.points.now) s.notes.now in
    let n = length-map s.points.now point_contents in
    along_more M J (turned s.direction _) c.args.rows.now c.loop-k.rows c.loop-k.k c.visited_at-p.result c.loop-k.changed c.same-kept.result c.gather-new.result _
    (c.requires ∙ sym n) (omega arith) c.loop-k.invariant (c.visited_at-p.ensures.value ∙ ap (λ m. visited_at s.direction m c.loop-k.k) (sym n)) c.gather-new.ensures
    c.same-kept.ensures.0 c.same-kept.ensures.1

pub returns : goal.returns
returns g c =
    let s = c.args.self.now in
    let M = g.K.RowKind.meaning s.kind.now in
    let J = job_of s.direction (all_contents s.points.now) s.notes.now in
    let n = length-map s.points.now point_contents in
    let went = c.loop-k.invariant.0 ∙ ap (λ k. visits M J k c.args.rows.now) (omega arith) in
    record { table = went; idle = c.loop-k.invariant.1; moved = λ t e. c.loop-k.invariant.2 t (sym went ∙ e) }
