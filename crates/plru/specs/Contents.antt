-- What a cache of the code holds.
use Rattle.std.specs.Prelude.{map, take}
use Rattle.plru.specs.declared.plru.Plru.{Plru}
use Rattle.plru.specs.Caches.{CacheState}
use Rattle.plru.specs.Meaning.{state_of}

abbrev pub contents : Plru → CacheState
contents c = record { sets = c.sets; ways = c.tree.ways; states = take c.sets (map state_of c.lines) }
