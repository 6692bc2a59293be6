-- What a FIFO cache holds, and what it vouches for.
use Rattle.std.specs.Prelude.{ℕ, List}
use Rattle.cache.specs.ListCaches.{rows_of}
use Rattle.cache.specs.Policies.{FifoVouchesFor}
use Rattle.cache.specs.declared.list_cache.ListCache.{ListCache}
use Rattle.cache.specs.declared.policy.Policy.{Ghosts}

module _ {P : Type 0} {g : Ghosts P} where
  -- the list of each set
  abbrev pub fifo_row : ListCache P g → List (List ℕ)
  fifo_row c = rows_of c

  -- each list of the row has at most one block, and the cache holds it. A FIFO cache is sure of no more, since a hit does not
  -- put off the eviction of a block
  abbrev pub FifoVouches : ListCache P g → List (List ℕ) → Type 0
  FifoVouches c row = FifoVouchesFor c.sets c.ways (fifo_row c) row
