-- The ages of blocks: 0 right after an access, and up to ways, from which on the block may have left the cache. One rule
-- serves for ages, from the accesses before a point, and for reuse distances, from those after it.
use Rattle.std.specs.Prelude.{◌≡◌, ℕ, ◌+◌, ◌-◌, ◌<◌, ◌≤◌, min, Bool, cond, ◌&&◌, List, Some, None, Option, ◌==◌, nat_le, nat_lt, slice_index}
use Rattle.fixpoint.specs.Kinds.{Meaning}
use Rattle.cells.specs.Cells.{Cell, each, rows_meaning}
use Rattle.rowkinds.specs.declared.ages.Ages.{Ages}

-- another block's age after an access of a block whose age was `old`: where both are of one cache set and the other
-- block's age is at most old, it grows by one, up to ways
abbrev pub grown : ℕ → Bool → ℕ → ℕ → ℕ
grown ways same_set old age = cond (same_set && nat_le age old) (min (age + 1) ways) age

-- the age of block i after an access of block b, whose age was `old`: b itself gets age 0
abbrev pub age_after : ℕ → List ℕ → ℕ → ℕ → ℕ → ℕ → ℕ
age_after ways sets b old i age = cond (i == b) 0 (grown ways (slice_index sets i == slice_index sets b) old age)

-- at most ways, and from index `blocks` on just ways
abbrev pub OwnAge : ℕ → ℕ → ℕ → ℕ → Type 0
OwnAge ways blocks i age = (age ≤ ways) × (blocks ≤ i → age ≡ ways)

-- lower ages are later: rows start from ways, and the merge takes the smaller age
abbrev pub age_cell : ℕ → ℕ → Cell ℕ
age_cell ways blocks = record {
  own = OwnAge ways blocks;
  at_or_before = λ a b. b ≤ a;
  start = ways;
  merge = min;
  rank = λ age. ways - age;
  height = ways;
  count = blocks;
}

abbrev pub age_list : Ages → List ℕ
age_list r = r.ages

abbrev pub ages_row : List ℕ → Ages
ages_row xs = record { ages = xs }

-- a note is the index of the accessed block, or `None`
abbrev pub OwnAccess : ℕ → Option ℕ → Type 0
OwnAccess blocks None = Unit {0}
OwnAccess blocks (Some b) = b < blocks

-- the row after a point; where no block is accessed, it stays
abbrev pub ages_after : ℕ → ℕ → List ℕ → Ages → Option ℕ → Ages
ages_after ways blocks sets r None = r
ages_after ways blocks sets r (Some b) =
    cond (nat_lt b blocks) (ages_row (each (age_after ways sets b (slice_index (age_list r) b)) 0 (age_list r))) r

-- the kind, with the cache set of each block
abbrev pub ages_meaning : ℕ → ℕ → List ℕ → Meaning Ages (Option ℕ)
ages_meaning ways blocks sets = rows_meaning (age_cell ways blocks) 64 age_list ages_row (OwnAccess blocks) (ages_after ways blocks sets)
