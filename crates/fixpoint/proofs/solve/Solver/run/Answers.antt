use Rattle.std.proofs.Common.{◌≡◌, ℕ, suc, ◌+◌, ◌-◌, ◌*◌, length, replicate, sym, ap, ◌∙◌, subst, arith}
use lib.ListN.{length-map}
use Rattle.task.specs.Meaning.{all_contents, point_contents}
use Rattle.fixpoint.specs.Rounds.{after_rounds, job_of, round, size}
use Rattle.fixpoint.specs.Settled.{Settled}
use Rattle.fixpoint.proofs.Steps.{after_rounds_none, after_rounds_more}
use Rattle.fixpoint.proofs.Ranks.{Moving, few_rounds, moving_more}
use Rattle.fixpoint.proofs.Settling.{settled}
use Rattle.fixpoint.proofs.solve.Solver.run.Goals as goal

pub loop-round-init : goal.loop-round-init
loop-round-init g c =
    let s = c.args.self.now in
    let M = g.K.RowKind.meaning s.kind.now in
    let n = length-map s.points.now point_contents in (
      c.begin.ensures ∙ ap (λ m. replicate m M.start) (c.requires.filled ∙ sym n) ∙ sym (after_rounds_none M _),
      λ k l e. omega arith,
    )

pub returns-then-not-go_round : goal.returns-then-not-go_round
returns-then-not-go_round g c =
    let s = c.args.self.now in
    let M = g.K.RowKind.meaning s.kind.now in
    let J = job_of s.direction (all_contents s.points.now) s.notes.now in
    let done = c.loop-round.round - 1 in
    let went : c.go_round.new.rows ≡ after_rounds M J (suc done) = c.go_round.ensures.table ∙ ap (round M J) c.loop-round.invariant.0 ∙ sym (after_rounds_more M J done) in
    let idle : after_rounds M J (suc done) ≡ after_rounds M J done = sym went ∙ c.go_round.ensures.idle c.if-not-go_round.true ∙ c.loop-round.invariant.0 in
    let e : suc done ≡ c.loop-round.round = omega arith in
    record {
      value = went ∙ ap (after_rounds M J) e;
      settled = λ own. subst (λ (r : ℕ). Settled M J r c.go_round.new.rows) e (settled M (g.met.K.RowKind.lawful s.kind.now) J own done c.go_round.new.rows c.loop-round.invariant.1 went idle);
    }

pub loop-round-preserved : goal.loop-round-preserved
loop-round-preserved g c =
    let s = c.args.self.now in
    let M = g.K.RowKind.meaning s.kind.now in
    let J = job_of s.direction (all_contents s.points.now) s.notes.now in
    let done = c.loop-round.round - 1 in
    let went : c.go_round.new.rows ≡ after_rounds M J (suc done) = c.go_round.ensures.table ∙ ap (round M J) c.loop-round.invariant.0 ∙ sym (after_rounds_more M J done) in
    let moving : Moving M J (done + 1) = moving_more M J done c.loop-round.invariant.1 (λ e. c.go_round.ensures.moved c.if-not-go_round.false (went ∙ e ∙ sym c.loop-round.invariant.0)) in
    (went ∙ ap (after_rounds M J) (omega arith), subst (Moving M J) (omega arith) moving)

-- with own notes the rounds do not run out: each of them would have changed something
pub returns-else-not-go_round : goal.returns-else-not-go_round
returns-else-not-go_round g c =
    let s = c.args.self.now in
    let M = g.K.RowKind.meaning s.kind.now in
    let J = job_of s.direction (all_contents s.points.now) s.notes.now in
    let done = c.loop-round.round - 1 in
    let went : c.go_round.new.rows ≡ after_rounds M J (suc done) = c.go_round.ensures.table ∙ ap (round M J) c.loop-round.invariant.0 ∙ sym (after_rounds_more M J done) in
    let moving : Moving M J (done + 1) = moving_more M J done c.loop-round.invariant.1 (λ e. c.go_round.ensures.moved c.if-not-go_round.false (went ∙ e ∙ sym c.loop-round.invariant.0)) in
    let most : size J * M.height ≡ length s.points.now * c.height.result = ap (λ (n : ℕ). n * M.height) (length-map s.points.now point_contents) ∙ ap (λ (h : ℕ). length s.points.now * h) (sym c.height.ensures) in
    record {
      value = went ∙ ap (after_rounds M J) (omega arith);
      settled = λ own. let few = few_rounds M (g.met.K.RowKind.lawful s.kind.now) J own (done + 1) moving in absurd (omega arith);
    }
