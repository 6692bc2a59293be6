-- The number of each reason why no cache is made.
use Rattle.std.specs.Prelude.{ℕ}
use Rattle.cache.specs.declared.fault.CacheFault.{CacheFault}
use Rattle.cache.specs.declared.fault.CacheFault.TheVariants as faults

abbrev pub number : CacheFault → ℕ
number faults.Sets = 12
number faults.Ways = 13
