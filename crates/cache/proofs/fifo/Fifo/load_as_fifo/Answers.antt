use Rattle.cache.specs.FifoState.{fifo_row}
use Rattle.cache.specs.FifoStepsLemmas.{fifo_laws}
use Rattle.cache.proofs.fifo.Fifo.load_as_fifo.Goals as goal

pub returns-clause-moves : goal.returns-clause-moves
returns-clause-moves c =
    let s = c.args.self.now in
    let e = c.load.ensures in
    λ row v. rw (e.moved, e.sets) (fifo_laws.moves s.sets s.ways (fifo_row s) row s.some_sets s.some_ways s.row v c.args.block)
