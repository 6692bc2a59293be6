-- Who is in a set of block indices, and how many.
use Rattle.std.specs.Prelude.{ℕ, ◌^◌, cond, bit_or, nat_lt}
use Rattle.blocksets.specs.Digits.{Has, tally}
use Rattle.blocksets.specs.declared.BlockSet.{BlockSet}

-- block i is in the set: the mask's binary digit at place i is 1
abbrev pub Holds : BlockSet → ℕ → Type 0
Holds s i = Has s.mask i

-- both ways
abbrev pub Iff : Type 0 → Type 0 → Type 0
Iff P Q = (P → Q) × (Q → P)

abbrev pub no_blocks : BlockSet
no_blocks = record { mask = 0 }

-- the union of two sets
abbrev pub joined : BlockSet → BlockSet → BlockSet
joined s t = record { mask = bit_or s.mask t.mask }

-- with one more block; an index past 63 is no block
abbrev pub with_block : BlockSet → ℕ → BlockSet
with_block s b = record { mask = cond (nat_lt b 64) (bit_or s.mask (2 ^ b)) s.mask }

-- every block of the one is in the other
abbrev pub Within : BlockSet → BlockSet → Type 0
Within s t = (i : ℕ) → Holds s i → Holds t i

-- how many of the blocks 0 to 63 are in the set; shut, since it would compute all 64 digits
unfoldable pub size : BlockSet → ℕ
size s = tally s.mask 64
