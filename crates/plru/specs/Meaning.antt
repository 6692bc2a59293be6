-- What the sets of the code hold.
use Rattle.std.specs.Prelude.{ℕ, Bool, true, ◌&&◌, List, [], ◌∷◌, length, nat_le}
use Rattle.plru.specs.declared.set.PlruSet.{PlruSet}
use Rattle.plru.specs.Sets.{SetState}

abbrev pub state_of : PlruSet → SetState
state_of s = record { blocks = s.blocks.items; bits = s.bits }

-- no set has more filled ways than so many
abbrev pub all_fit : ℕ → List PlruSet → Bool
all_fit ways [] = true
all_fit ways (s ∷ sets) = nat_le (length (state_of s).blocks) ways && all_fit ways sets
