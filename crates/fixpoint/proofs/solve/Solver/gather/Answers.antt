use Rattle.std.proofs.Common.{sym, ap, ◌∙◌, arith}
use Rattle.task.specs.Meaning.{all_contents}
use Rattle.fixpoint.specs.Rounds.{job_of}
use Rattle.fixpoint.proofs.Steps.{merged_below_none, merged_below_fed, merged_below_unfed, advanced_is}
use Rattle.fixpoint.proofs.solve.Solver.gather.Goals as goal
use Rattle.fixpoint.proofs.solve.Solver.gather.Goals.{then-is_input, else-is_input}

pub loop-q-init : goal.loop-q-init
loop-q-init g c = c.start-all.ensures ∙ sym (merged_below_none _ _ _ _)

pub loop-q-preserved : goal.loop-q-preserved
loop-q-preserved g c =
    let s = c.args.self.now in
    let M = g.K.RowKind.meaning s.kind.now in
    let J = job_of s.direction (all_contents s.points.now) s.notes.now in
    let q = c.loop-q.q in
    elim c.if-is_input.branch [
      | then-is_input w ↦
          let went = advanced_is M J c.args.rows.now s.notes.now q _ _ (omega arith) (omega arith) c.index-rows-q.is w.index-self-q.is in
          merged_below_fed M J c.args.rows.now c.args.p q c.loop-q.all c.if-is_input.all c.is_input.result c.is_input.ensures w.if-is_input.true c.loop-q.invariant
          (w.all-is ∙ w.merge-all.ensures ∙ ap (M.merge c.loop-q.all) (w.advance.ensures ∙ ap (M.advance c.index-rows-q.result) (sym w.index-self-q.is) ∙ went))
      | else-is_input w ↦
          merged_below_unfed M J c.args.rows.now c.args.p q c.loop-q.all c.if-is_input.all c.is_input.result c.is_input.ensures w.if-is_input.false c.loop-q.invariant w.all-is
    ]
