use Rattle.std.proofs.Common.{◌≡◌, ℕ, ◌<◌, min, get_or, ap, ◌∙◌, arith, rules}
use Rattle.task.specs.Tasks.{contents}
use Rattle.numbers.specs.Counts.{sum_below}
use Rattle.numbers.specs.Numbers.{evicting_in, if_evicting, reached_in, useful_in}
use Rattle.numbers.specs.declared.PointNumbers.{PointNumbers}
use Rattle.numbers.proofs.point_numbers.Goals as goal

abbrev four : ℕ → ℕ → ℕ → ℕ → PointNumbers
four a b c d = record { useful = a; evicting = b; combined = c; resilient = d }

same_four : (a b c d k l m n : ℕ) → a ≡ k → b ≡ l → c ≡ m → d ≡ n → four a b c d ≡ four k l m n
same_four a b c d k l m n p q r s = cc

pub returns : goal.returns
returns c =
    let t = contents c.args.task.now in
    let v = c.args.view.now in
    let ways = c.parameters-sets.result.ways in
    let same_ways = c.parameters-sets.ensures.ways in
    let evicting = c.evicting_in_sets-evicting.result in
    let useful = c.useful_in_sets-useful.result in
    let reached = c.reached_in_sets-reached.result in
    let evicted : (s : ℕ) → s < 64 → get_or evicting s 0 ≡ evicting_in t s = c.evicting_in_sets-evicting.ensures.1 in
    let at_risk : (s : ℕ) → s < 64 → min (get_or useful s 0) ways ≡ useful_in t v s = λ s small. let e = c.useful_in_sets-useful.ensures.1 s small in omega arith in
    let hit : (s : ℕ) → s < 64 → min (get_or reached s 0) ways ≡ reached_in t v s = λ s small. let e = c.reached_in_sets-reached.ensures.1 s small in omega arith in
    let part : (s n m : ℕ) → s < 64 → n ≡ m → if_evicting (get_or evicting s 0) n ≡ if_evicting (evicting_in t s) m =
    λ s n m small same. ap (λ (e : ℕ). if_evicting e n) (evicted s small) ∙ ap (if_evicting (evicting_in t s)) same in
    let all : (f : ℕ → ℕ) → sum_below f c.parameters-sets.result.sets ≡ sum_below f t.sets = λ f. ap (sum_below f) c.parameters-sets.ensures.sets in
    same_four _ _ _ _ _ _ _ _
    (c.sum_over.ensures (useful_in t v) (λ s n small h. let e : n ≡ min (get_or useful s 0) ways = search rules in e ∙ at_risk s small) ∙ all _)
    (c.sum_over-2.ensures (λ s. if_evicting (evicting_in t s) t.ways) (λ s n small h. let e : n ≡ if_evicting (get_or evicting s 0) ways = search rules in e ∙ part s _ _ small same_ways) ∙ all _)
    (c.sum_over-3.ensures (λ s. if_evicting (evicting_in t s) (useful_in t v s)) (λ s n small h. let e : n ≡ if_evicting (get_or evicting s 0) (min (get_or useful s 0) ways) = search rules in e ∙ part s _ _ small (at_risk s small)) ∙ all _)
    (c.sum_over-4.ensures (λ s. if_evicting (evicting_in t s) (reached_in t v s)) (λ s n small h. let e : n ≡ if_evicting (get_or evicting s 0) (min (get_or reached s 0) ways) = search rules in e ∙ part s _ _ small (hit s small)) ∙ all _)
