-- Counting and adding up over the numbers below a bound.
use Rattle.std.specs.Prelude.{◌≡◌, ℕ, zero, suc, ◌+◌, ◌<◌, Bool, cond, List, length, slice_index}

-- how many numbers below n pass a test
abbrev pub count_below : (ℕ → Bool) → ℕ → ℕ
count_below test zero = 0
count_below test (suc n) = count_below test n + cond (test n) 1 0

-- each of 64 cells holds how many numbers below n pass the cell's own test
abbrev pub Counted : List ℕ → (ℕ → ℕ → Bool) → ℕ → Type 0
Counted cells test n = (length cells ≡ 64) × ((s : ℕ) → s < 64 → slice_index cells s ≡ count_below (test s) n)

-- f 0 + f 1 + .. + f (n - 1)
abbrev pub sum_below : (ℕ → ℕ) → ℕ → ℕ
sum_below f zero = 0
sum_below f (suc n) = sum_below f n + f n
