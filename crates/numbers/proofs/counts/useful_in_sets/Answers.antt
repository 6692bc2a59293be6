use Rattle.std.proofs.Common.{ℕ, ◌&&◌, List, length, subst, rules}
use Rattle.task.specs.Tasks.{contents}
use Rattle.numbers.specs.Counts.{Counted}
use Rattle.numbers.specs.Numbers.{is_in}
use Rattle.numbers.specs.Tests.{useful}
use Rattle.numbers.proofs.counts.useful_in_sets.Goals as goal

pub returns : goal.returns
returns c =
    let t = contents c.args.task.now in
    let v = c.args.view.now in
    let pass = useful t.ways v.ages v.reuses in
    subst (λ (bs : List ℕ). Counted c.count_in_sets.result (λ s i. is_in t.sets bs s i && pass i) (length bs)) c.blocks-blocks.ensures.value
    (c.count_in_sets.ensures (λ _. pass) (λ i s r small h. search rules))
