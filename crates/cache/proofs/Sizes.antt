-- What a size that is not refused is. Assumes nothing.
use Rattle.std.proofs.Common.{◌≡◌, ℕ, ◌≤◌, Bool, true, None, arith}
use Rattle.std.proofs.lemmas.Bool.Decides.{nat_tests}
use Rattle.cache.specs.Sizes.{legal_ways, refusal}

pub made_within : (can_have : ℕ → Bool) (sets ways : ℕ) → refusal can_have sets ways ≡ None → (1 ≤ sets) × (sets ≤ 64) × (can_have ways ≡ true)
made_within can_have sets ways h = (grind (arith, nat_tests), grind (arith, nat_tests), grind (arith, nat_tests))

pub size_within : (sets ways : ℕ) → refusal legal_ways sets ways ≡ None → (1 ≤ sets) × (sets ≤ 64) × (1 ≤ ways) × (ways ≤ 8)
size_within sets ways h = let k = made_within legal_ways sets ways h in (k.0, k.1, grind (arith, nat_tests, k.2), grind (arith, nat_tests, k.2))
