use Rattle.std.proofs.Common.{◌≡◌, ℕ, ◌&&◌, List, length, get_or, None, ap, ◌∙◌, subst, rules}
use Rattle.task.specs.Tasks.{contents}
use Rattle.widest.specs.NextUses.{count_list}
use Rattle.numbers.specs.Counts.{Counted}
use Rattle.numbers.specs.Numbers.{evicting_in, is_in}
use Rattle.numbers.specs.Tests.{reached, useful}
use Rattle.numbers.proofs.counts.reached_in_sets.Goals as goal

pub returns : goal.returns
returns c =
    let t = contents c.args.task.now in
    let v = c.args.view.now in
    let pass = λ (s i : ℕ). useful t.ways v.ages v.reuses i && reached t.ways (evicting_in t s) (get_or (count_list v.uses) i None) in
    subst (λ (bs : List ℕ). Counted c.count_in_sets.result (λ s i. is_in t.sets bs s i && pass s i) (length bs)) c.blocks-blocks.ensures.value
    (c.count_in_sets.ensures pass (λ i s r small h.
    let w = c.parameters-ways.result.ways in
    let next = get_or (count_list v.uses) i None in
    let said : r ≡ (useful w v.ages v.reuses i && reached w (get_or c.args.evicting.now s 0) next) = search rules in
    said ∙ ap (λ (e : ℕ). useful w v.ages v.reuses i && reached w e next) (c.requires.1 s small) ∙ ap (λ (n : ℕ). useful n v.ages v.reuses i && reached n (evicting_in t s) next) c.parameters-ways.ensures.ways))
