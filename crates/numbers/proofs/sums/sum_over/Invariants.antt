use Rattle.std.proofs.Common.{◌≡◌, ℕ, ◌*◌, ◌<◌, ◌≤◌}
use Rattle.numbers.specs.Counts.{sum_below}
use Rattle.numbers.proofs.sums.sum_over.Given as goal

-- the cache sets so far are added up
abbrev pub invariant-loop-s : goal.invariant-loop-s
invariant-loop-s g l = record {
  small : l.sum ≤ 255 * l.s;
  added : (f : ℕ → ℕ) → ((s n : ℕ) → s < 64 → goal.F-post g l.number s n → n ≡ f s) → l.sum ≡ sum_below f l.s;
}
