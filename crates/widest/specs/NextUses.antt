-- The widest next use of each block: how many blocks conflict with it at its next use, the largest number over the
-- paths ahead, or none.
use Rattle.std.specs.Prelude.{◌≡◌, ℕ, suc, ◌<◌, ◌≤◌, max, cond, List, Some, None, Option, nat_lt, slice_set}
use Rattle.fixpoint.specs.Kinds.{Meaning}
use Rattle.cells.specs.Cells.{Cell, rows_meaning}
use Rattle.widest.specs.declared.next_uses.NextUses.{NextUses}
use Rattle.widest.specs.declared.next_uses.NextUse.{NextUse}

-- none is lowest, and counts follow as numbers do
abbrev pub level : Option ℕ → ℕ
level None = 0
level (Some k) = suc k

abbrev pub larger : Option ℕ → Option ℕ → Option ℕ
larger None b = b
larger (Some j) None = Some j
larger (Some j) (Some k) = Some (max j k)

-- none, or a number below n
abbrev pub Below : ℕ → Option ℕ → Type 0
Below n None = Unit {0}
Below n (Some k) = k < n

-- a count is below the number of blocks, and from index `blocks` on there is none
abbrev pub OwnCount : ℕ → ℕ → Option ℕ → Type 0
OwnCount blocks i count = Below blocks count × (blocks ≤ i → count ≡ None)

-- larger counts are later: rows start from none, and the merge takes the larger count
abbrev pub count_cell : ℕ → Cell (Option ℕ)
count_cell blocks = record {
  own = OwnCount blocks;
  at_or_before = λ a b. level a ≤ level b;
  start = None;
  merge = larger;
  rank = level;
  height = blocks;
  count = blocks;
}

abbrev pub count_list : NextUses → List (Option ℕ)
count_list r = r.counts

abbrev pub next_uses_row : List (Option ℕ) → NextUses
next_uses_row xs = record { counts = xs }

-- a note is the accessed block with its count, or `None`
abbrev pub OwnUse : ℕ → Option NextUse → Type 0
OwnUse blocks None = Unit {0}
OwnUse blocks (Some u) = (u.block < blocks) × Below blocks u.conflicts

-- the row after a point: the accessed block gets the access's count, or none where that has none, and the other blocks
-- keep theirs; where no block is accessed, or none of the task's blocks, the row stays
abbrev pub next_uses_after : ℕ → NextUses → Option NextUse → NextUses
next_uses_after blocks r None = r
next_uses_after blocks r (Some u) =
    cond (nat_lt u.block blocks) (next_uses_row (slice_set (count_list r) u.block u.conflicts)) r

-- the kind; its height is blocks × blocks
abbrev pub next_uses_meaning : ℕ → Meaning NextUses (Option NextUse)
next_uses_meaning blocks = rows_meaning (count_cell blocks) 64 count_list next_uses_row (OwnUse blocks) (next_uses_after blocks)
