-- The number of each cause for which a call is refused.
use Rattle.std.specs.Prelude.{ℕ}
use Rattle.bench.specs.declared.fault.BenchFault.{BenchFault}
use Rattle.bench.specs.declared.fault.BenchFault.TheVariants.{ShortTable, OtherSets, OtherLife, Interrupted, NotInterrupted, NoSuccessor, NoExit, NotEvicting, StepsUsedUp, InterruptionsUsedUp, Ended}

abbrev pub fault_number : BenchFault → ℕ
fault_number ShortTable = 10
fault_number OtherSets = 14
fault_number OtherLife = 15
fault_number Interrupted = 16
fault_number NotInterrupted = 17
fault_number NoSuccessor = 18
fault_number NoExit = 19
fault_number NotEvicting = 20
fault_number StepsUsedUp = 21
fault_number InterruptionsUsedUp = 22
fault_number Ended = 23
