-- How many blocks a set has, at most. Assumes nothing.
use Rattle.std.proofs.Common.{◌≡◌, ℕ, ◌+◌, ◌-◌, ◌<◌, ◌≤◌, sym, ap, ◌∙◌, subst, arith}
use Rattle.blocksets.specs.Digits.{tally}
use Rattle.blocksets.specs.Members.{Holds, size}
use Rattle.blocksets.specs.declared.BlockSet.{BlockSet}
use Rattle.blocksets.proofs.Digits.{tally_small, tally_lacking, tally_past}

pub size_small : (s : BlockSet) → size s ≤ 64
unfolding size
size_small s = tally_small s.mask 64

-- a set of blocks below n that lacks one of these
pub size_lacking : (s : BlockSet) (n i : ℕ) → n ≤ 64 → ((j : ℕ) → Holds s j → j < n) → i < n → (Holds s i → ⊥) → size s < n
unfolding size
size_lacking s n i few below h lacks =
    let e : 64 ≡ (64 - n) + n = omega arith in
    let r : tally s.mask 64 ≡ tally s.mask n = ap (tally s.mask) e ∙ tally_past s.mask n (64 - n) below in
    subst (λ (k : ℕ). k < n) (sym r) (tally_lacking s.mask n i h lacks)
