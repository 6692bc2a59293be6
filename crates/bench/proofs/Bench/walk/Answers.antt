use Rattle.std.proofs.Common.{◌≡◌, ◌<◌, true, length, sym, ap, ◌∙◌, subst}
use Rattle.recency.specs.Blocks.{has}
use Rattle.ledger.specs.Ledger.{successors_at}
use Rattle.bench.specs.Benches.{setting_of}
use Rattle.bench.proofs.Successors.{successor_inside}
use Rattle.bench.proofs.Bench.walk.Goals as goal

pub invariant_of-self : goal.invariant_of-self
invariant_of-self g c =
    let s = c.args.self.now in
    let t = c.perform-answer.new.self in
    let q = c.args.to in
    let ps = (setting_of s).task.points in
    let follows : has q (successors_at ps s.point) ≡ true = ap (λ p. has q p.successors) (sym c.here.ensures) ∙ sym c.leads_to.ensures ∙ c.if-not-leads_to.false in
    let inside = subst (λ S. q < length S.task.points) (sym c.perform-answer.ensures.setting) (successor_inside ps s.point q s.setup.task.now.complete follows) in
    record {
      inside = inside;
      numbers = t.numbers;
      knows = t.knows;
      few_steps = t.few_steps;
      few_loads = t.few_loads;
      few_plain = t.few_plain;
      few_interruptions = t.few_interruptions;
      small_charge = t.small_charge;
      plain_sets = t.plain_sets;
      plain_ways = t.plain_ways;
    }
