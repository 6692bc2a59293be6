-- What a cache of lists holds.
use Rattle.std.specs.Prelude.{ℕ, List}
use Rattle.cache.specs.BlockLists.{row_of}
use Rattle.cache.specs.declared.list_cache.ListCache.{ListCache}
use Rattle.cache.specs.declared.policy.Policy.{Ghosts}

-- the list of each set
abbrev pub rows_of : {P : Type 0} {g : Ghosts P} → ListCache P g → List (List ℕ)
rows_of c = row_of c.sets c.lists
