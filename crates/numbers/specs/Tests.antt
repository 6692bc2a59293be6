-- Which blocks are useful, and which of them an interruption can reach.
use Rattle.std.specs.Prelude.{ℕ, ◌+◌, Bool, false, ◌&&◌, Some, None, Option, nat_le, nat_lt}
use Rattle.std.specs.List.{slice_get}
use Rattle.rowkinds.specs.Ages.{age_list}
use Rattle.rowkinds.specs.declared.ages.Ages.{Ages}

abbrev pub below : ℕ → Option ℕ → Bool
below ways None = false
below ways (Some age) = nat_lt age ways

-- the block at index i may be in the cache, and may be used again while it still is there: its age and its reuse
-- distance are both below ways
abbrev pub useful : ℕ → Ages → Ages → ℕ → Bool
useful ways ages reuses i = below ways (slice_get (age_list ages) i) && below ways (slice_get (age_list reuses) i)

-- with e evicting blocks, a next use with so many conflicts can miss
abbrev pub reached : ℕ → ℕ → Option ℕ → Bool
reached ways e None = false
reached ways e (Some conflicts) = nat_le ways (conflicts + e)
