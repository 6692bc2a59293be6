-- What an LRU cache holds, and what it vouches for.
use Rattle.std.specs.Prelude.{ℕ, List}
use Rattle.cache.specs.ListCaches.{rows_of}
use Rattle.cache.specs.Policies.{LruVouchesFor}
use Rattle.cache.specs.declared.list_cache.ListCache.{ListCache}
use Rattle.cache.specs.declared.policy.Policy.{Ghosts}

module _ {P : Type 0} {g : Ghosts P} where
  -- the list of each set
  abbrev pub lru_row : ListCache P g → List (List ℕ)
  lru_row c = rows_of c

  -- each list of the row is a front part of the cache's own list of that set
  abbrev pub LruVouches : ListCache P g → List (List ℕ) → Type 0
  LruVouches c row = LruVouchesFor c.sets c.ways (lru_row c) row
