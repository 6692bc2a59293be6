use Rattle.std.proofs.Common.{◌≡◌, ℕ, true, List, length, subst, rules}
use Rattle.std.proofs.Math.Seq.{take-length}
use Rattle.std.proofs.Math.Bool.{and-true}
use Rattle.task.specs.Tasks.{contents}
use Rattle.numbers.specs.Counts.{Counted}
use Rattle.numbers.specs.Numbers.{is_in}
use Rattle.numbers.proofs.Counting.{counted_same}
use Rattle.numbers.proofs.counts.evicting_in_sets.Goals as goal

-- the blocks that were counted are the evicting blocks, however they were handed on
of_same : (cells : List ℕ) (sets : ℕ) (bs es : List ℕ) → Counted cells (is_in sets bs) (length bs) → bs ≡ es → Counted cells (is_in sets es) (length es)
of_same cells sets bs es h e = subst (λ (xs : List ℕ). Counted cells (is_in sets xs) (length xs)) e h

pub returns : goal.returns
returns c =
    let t = contents c.args.task.now in
    of_same _ t.sets _ t.evicting (counted_same _ _ _ _ (λ s i. and-true _) (c.count_in_sets.ensures (λ _ _. true) (λ i s r small h. search rules))) (search (rules, take-length))
