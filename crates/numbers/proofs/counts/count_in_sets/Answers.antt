use Rattle.std.proofs.Common.{ℕ, ◌+◌, ◌<◌, ◌≤◌, ◌&&◌, List, length, get_or, sym, ap, ◌∙◌, subst, arith, length-set}
use lib.ListN.{length-replicate}
use Rattle.task.specs.Tasks.{contents}
use Rattle.numbers.specs.Counts.{Counted}
use Rattle.numbers.specs.Numbers.{is_in}
use Rattle.numbers.proofs.Counting.{few_start, few_more, counted_start, counted_all, block_counted, block_left}
use Rattle.numbers.proofs.counts.count_in_sets.Goals as goal
use Rattle.numbers.proofs.counts.count_in_sets.Goals.{then-test, else-test}

pub loop-i-init : goal.loop-i-init
loop-i-init g c = record { room = length-replicate {A = ℕ} 64 0; few = few_start; counted = λ passes h. counted_start (λ s i. is_in (contents c.args.task.now).sets c.args.blocks.now s i && passes s i) }

pub loop-i-preserved : goal.loop-i-preserved
loop-i-preserved g c =
    let t = contents c.args.task.now in
    let blocks = c.args.blocks.now in
    let i = c.loop-i.i in
    let h = c.set_of-set.result in
    let cells = c.loop-i.counts in
    let within : h < 64 = c.set_of-set.ensures.small in
    elim c.if-test.branch [
      | then-test w ↦ record {
        room = ap length w.counts-is ∙ length-set cells h _ ∙ c.loop-i.invariant.room;
        few = subst (λ (xs : List ℕ). (s : ℕ) → s < 64 → get_or xs s 0 ≤ i + 1) (sym w.counts-is) (few_more cells h i c.loop-i.invariant.room within c.loop-i.invariant.few);
        counted = λ passes follows. subst (λ (xs : List ℕ). Counted xs (λ s j. is_in t.sets blocks s j && passes s j) (i + 1)) (sym w.counts-is)
            (block_counted t.sets blocks cells passes i (c.loop-i.invariant.counted passes follows) h within c.set_of-set.ensures.value (sym (follows i h c.test.result within c.test.ensures) ∙ w.if-test.true));
      }
      | else-test w ↦ record {
        room = ap length w.counts-is ∙ c.loop-i.invariant.room;
        few = subst (λ (xs : List ℕ). (s : ℕ) → s < 64 → get_or xs s 0 ≤ i + 1) (sym w.counts-is) (λ s small. let k = c.loop-i.invariant.few s small in omega arith);
        counted = λ passes follows. subst (λ (xs : List ℕ). Counted xs (λ s j. is_in t.sets blocks s j && passes s j) (i + 1)) (sym w.counts-is)
            (block_left t.sets blocks cells passes i (c.loop-i.invariant.counted passes follows) h c.set_of-set.ensures.value (sym (follows i h c.test.result within c.test.ensures) ∙ w.if-test.false));
      }
    ]

pub returns : goal.returns
returns g c = λ passes follows. counted_all c.loop-i.counts _ c.loop-i.i (c.loop-i.invariant.counted passes follows) _ (omega arith)
