-- A number as the set of the places at which its binary digit is 1.
use Rattle.std.specs.Prelude.{◌≡◌, ℕ, zero, suc, ◌+◌, ◌/◌, ◌%◌}

-- the binary digit of m at place i, counted from the lowest
abbrev pub digit : ℕ → ℕ → ℕ
digit m zero = m % 2
digit m (suc i) = digit (m / 2) i

abbrev pub Has : ℕ → ℕ → Type 0
Has m i = digit m i ≡ 1

-- how many places below n have a 1
abbrev pub tally : ℕ → ℕ → ℕ
tally m zero = 0
tally m (suc n) = digit m n + tally m n
