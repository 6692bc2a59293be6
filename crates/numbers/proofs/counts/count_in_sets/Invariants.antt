use Rattle.std.proofs.Common.{◌≡◌, ℕ, ◌<◌, ◌≤◌, Bool, ◌&&◌, length, get_or}
use Rattle.task.specs.Tasks.{contents}
use Rattle.numbers.specs.Counts.{Counted}
use Rattle.numbers.specs.Numbers.{is_in}
use Rattle.numbers.proofs.counts.count_in_sets.Given as goal

-- the blocks so far are counted
abbrev pub invariant-loop-i : goal.invariant-loop-i
invariant-loop-i g l = record {
  room : length l.counts ≡ 64;
  few : (s : ℕ) → s < 64 → get_or l.counts s 0 ≤ l.i;
  counted : (passes : ℕ → ℕ → Bool) → ((i s : ℕ) (r : Bool) → s < 64 → goal.F-post g l.test i s r → r ≡ passes s i) → Counted l.counts (λ s i. is_in (contents l.task).sets l.blocks s i && passes s i) l.i;
}
