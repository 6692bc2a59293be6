use Rattle.cache.specs.LruLaws.{lru_laws}
use Rattle.cache.specs.LruState.{lru_row}
use Rattle.cache.proofs.lru.Lru.load_as_lru.Goals as goal

pub returns-clause-moves : goal.returns-clause-moves
returns-clause-moves c =
    let s = c.args.self.now in
    let e = c.load.ensures in
    λ row v. rw e.moved (lru_laws.moves s.sets s.ways (lru_row s) row s.some_sets s.some_ways s.row v c.args.block)
