-- A tree PLRU cache: its sets, in their order, and an access.
use Rattle.std.specs.Prelude.{◌≡◌, ℕ, suc, Bool, true, List, replicate, Some, None, Ok, Err, Option, Result, slice_index_or, slice_set}
use Rattle.cache.specs.declared.fault.CacheFault.{CacheFault}
use Rattle.cache.specs.Sizes.{refusal}
use Rattle.recency.specs.Blocks.{has, set_of}
use Rattle.recency.specs.Paired.{Paired}
use Rattle.recency.specs.Rows.{is_row}
use Rattle.plru.specs.Tree.{is_tree, levels}
use Rattle.plru.specs.Sets.{SetState, empty_set, plru_step}
use Rattle.plru.specs.Guards.{Guards}

pub record CacheState : Type 0 where
  pub sets : ℕ
  pub ways : ℕ
  pub states : List SetState

abbrev pub unless_refused : Option CacheFault → CacheState → Result CacheState CacheFault
unless_refused None c = Ok c
unless_refused (Some e) c = Err e

-- an empty cache, or why there is none: the sets are tested first
abbrev pub new_cache : ℕ → ℕ → Result CacheState CacheFault
new_cache sets ways = unless_refused (refusal is_tree sets ways) (record { sets = sets; ways = ways; states = replicate sets empty_set })

-- the set of a block
abbrev pub state_for : ℕ → CacheState → SetState
state_for b c = slice_index_or c.states (set_of c.sets b) empty_set

abbrev pub holds_block : CacheState → ℕ → Bool
holds_block c b = has b (state_for b c).blocks

-- an access changes the set of its block alone
abbrev pub cache_step : ℕ → CacheState → CacheState
cache_step b c = record { sets = c.sets; ways = c.ways; states = slice_set c.states (set_of c.sets b) (plru_step c.ways b (state_for b c)) }

-- LRU lists of so many ways are vouched for
abbrev pub life_of : ℕ → ℕ
life_of ways = suc (levels ways)

-- the rows that a cache vouches for
abbrev pub Guarded : CacheState → List (List ℕ) → Type 0
Guarded c row = (is_row c.sets (life_of c.ways) row ≡ true) × Paired (Guards c.ways) c.states row
