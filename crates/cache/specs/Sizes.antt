-- Which caches are made.
use Rattle.std.specs.Prelude.{ℕ, Bool, cond, ◌&&◌, Some, None, Option, nat_le}
use Rattle.cache.specs.declared.fault.CacheFault.{CacheFault}
use Rattle.cache.specs.declared.fault.CacheFault.TheVariants as faults

-- 1 to 64
abbrev pub legal_sets : ℕ → Bool
legal_sets sets = nat_le 1 sets && nat_le sets 64

-- 1 to 8, for a cache that keeps a list of blocks for each set
abbrev pub legal_ways : ℕ → Bool
legal_ways ways = nat_le 1 ways && nat_le ways 8

-- why no cache is made, the sets first; `None` where one is. `can_have` says which ways its kind can have
abbrev pub refusal : (ℕ → Bool) → ℕ → ℕ → Option CacheFault
refusal can_have sets ways = cond (legal_sets sets) (cond (can_have ways) None (Some faults.Ways)) (Some faults.Sets)
