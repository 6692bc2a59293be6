use Rattle.std.proofs.Common.{take, vec_items}
use Rattle.bench.specs.Benches.{ledger_in, setting_of}
use Rattle.replaying.proofs.Along.{Along}
use Rattle.replaying.proofs.play.replay.Given as goal

abbrev pub invariant-loop-call : goal.invariant-loop-call
invariant-loop-call g l =
    Along g.C.Cache (setting_of l.initial.bench) l.initial.bench.cache (take l.call-index l.calls) (vec_items l.played) l.bench.cache (ledger_in l.bench) (setting_of l.bench)
