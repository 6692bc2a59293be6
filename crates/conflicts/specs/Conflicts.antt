-- The conflict sets of blocks: a block's set has the other blocks of its cache set that may be accessed after its own last
-- access. A block has none, no set at all, before its first access.
use Rattle.std.specs.Prelude.{◌≡◌, ℕ, suc, ◌<◌, Bool, true, false, cond, List, Some, None, Option, ◌==◌, ◌≢◌, count_ones, nat_lt, slice_index}
use Rattle.fixpoint.specs.Kinds.{Meaning}
use Rattle.cells.specs.Cells.{Cell, each, rows_meaning}
use Rattle.rowkinds.specs.Ages.{OwnAccess}
use Rattle.blocksets.specs.declared.BlockSet.{BlockSet}
use Rattle.blocksets.specs.Members.{Holds, Within, joined, no_blocks, with_block}
use Rattle.conflicts.specs.declared.Conflicts.{Conflicts}

-- another block's conflict set after an access of block b: where both are of one cache set, b is added to a set, and
-- none stays none
abbrev pub extended : Bool → ℕ → Option BlockSet → Option BlockSet
extended true b None = None
extended true b (Some s) = Some (with_block s b)
extended false b x = x

-- the conflict set of block i after an access of block b: b itself gets the empty set
abbrev pub conflict_after : List ℕ → ℕ → ℕ → Option BlockSet → Option BlockSet
conflict_after sets b i x = cond (i == b) (Some no_blocks) (extended (slice_index sets i == slice_index sets b) b x)

-- the merge: the union, where none adds nothing
abbrev pub union_of : Option BlockSet → Option BlockSet → Option BlockSet
union_of None y = y
union_of (Some s) None = Some s
union_of (Some s) (Some t) = Some (joined s t)

-- none comes before all, and a set before the sets that include it
abbrev pub Included : Option BlockSet → Option BlockSet → Type 0
Included None y = Unit {0}
Included (Some s) None = ⊥
Included (Some s) (Some t) = Within s t

-- none, or, below index `blocks`, a set of other blocks of the block's cache set
abbrev pub OwnConflict : ℕ → List ℕ → ℕ → Option BlockSet → Type 0
OwnConflict blocks sets i None = Unit {0}
OwnConflict blocks sets i (Some s) =
    (i < blocks) × ((j : ℕ) → Holds s j → (j < blocks) × (j ≢ i) × (slice_index sets j ≡ slice_index sets i))

-- none has rank 0, and a set one more than it has members; with at most all other blocks in it, that is at most blocks
abbrev pub conflict_rank : Option BlockSet → ℕ
conflict_rank None = 0
conflict_rank (Some s) = suc (count_ones s.mask)

abbrev pub conflict_cell : ℕ → List ℕ → Cell (Option BlockSet)
conflict_cell blocks sets = record {
  own = OwnConflict blocks sets;
  at_or_before = Included;
  start = None;
  merge = union_of;
  rank = conflict_rank;
  height = blocks;
  count = blocks;
}

abbrev pub conflict_list : Conflicts → List (Option BlockSet)
conflict_list r = r.conflicts

abbrev pub conflicts_row : List (Option BlockSet) → Conflicts
conflicts_row xs = record { conflicts = xs }

-- the row after a point, whose note is the index of the accessed block; where no block is accessed, it stays
abbrev pub conflicts_after : ℕ → List ℕ → Conflicts → Option ℕ → Conflicts
conflicts_after blocks sets r None = r
conflicts_after blocks sets r (Some b) = cond (nat_lt b blocks) (conflicts_row (each (conflict_after sets b) 0 (conflict_list r))) r

-- the kind, with the cache set of each block
abbrev pub conflicts_meaning : ℕ → List ℕ → Meaning Conflicts (Option ℕ)
conflicts_meaning blocks sets = rows_meaning (conflict_cell blocks sets) 64 conflict_list conflicts_row (OwnAccess blocks) (conflicts_after blocks sets)
