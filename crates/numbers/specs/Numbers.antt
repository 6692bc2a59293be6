-- The four numbers of a point: how many loads one interruption there can make the task repeat, by useful blocks, by
-- evicting blocks, by both, and by resilience.
use Rattle.std.specs.Prelude.{ℕ, min, Bool, cond, ◌&&◌, List, length, None, ◌==◌, nat_lt, slice_index, slice_index_or}
use Rattle.recency.specs.Blocks.{set_of}
use Rattle.task.specs.Blocks.{distinct_blocks}
use Rattle.task.specs.Contents.{TaskContents}
use Rattle.rowkinds.specs.declared.ages.Ages.{Ages}
use Rattle.widest.specs.NextUses.{count_list}
use Rattle.widest.specs.declared.next_uses.NextUses.{NextUses}
use Rattle.numbers.specs.Counts.{count_below, sum_below}
use Rattle.numbers.specs.Tests.{reached, useful}
use Rattle.numbers.specs.declared.PointNumbers.{PointNumbers}
use Rattle.numbers.specs.declared.view.View.{View}

abbrev pub view : Ages → Ages → NextUses → View
view ages reuses uses = record { ages = ages; reuses = reuses; uses = uses }

-- the block at index i of a list is of cache set s
abbrev pub is_in : ℕ → List ℕ → ℕ → ℕ → Bool
is_in sets blocks s i = set_of sets (slice_index blocks i) == s

abbrev pub is_evicting_in : TaskContents → ℕ → ℕ → Bool
is_evicting_in t = is_in t.sets t.evicting

-- how many evicting blocks are of cache set s
abbrev pub evicting_in : TaskContents → ℕ → ℕ
evicting_in t s = count_below (is_evicting_in t s) (length t.evicting)

-- the task's block at index i is of cache set s and useful
abbrev pub is_useful_in : TaskContents → Ages → Ages → ℕ → ℕ → Bool
is_useful_in t ages reuses s i = is_in t.sets (distinct_blocks t.points) s i && useful t.ways ages reuses i

-- and an interruption can also reach it
abbrev pub is_reached_in : TaskContents → View → ℕ → ℕ → Bool
is_reached_in t v s i =
    is_in t.sets (distinct_blocks t.points) s i
    && (useful t.ways v.ages v.reuses i && reached t.ways (evicting_in t s) (slice_index_or (count_list v.uses) i None))

-- how many of the task's blocks in cache set s are useful, at most ways
abbrev pub useful_in : TaskContents → View → ℕ → ℕ
useful_in t v s = min t.ways (count_below (is_useful_in t v.ages v.reuses s) (length (distinct_blocks t.points)))

-- how many of them an interruption can also reach, at most ways
abbrev pub reached_in : TaskContents → View → ℕ → ℕ
reached_in t v s = min t.ways (count_below (is_reached_in t v s) (length (distinct_blocks t.points)))

-- a number for a cache set with e evicting blocks, where an interruption accesses it at all
abbrev pub if_evicting : ℕ → ℕ → ℕ
if_evicting e n = cond (nat_lt 0 e) n 0

-- the four numbers, each added up over the first cache sets
abbrev pub numbers_below : TaskContents → View → ℕ → PointNumbers
numbers_below t v n = record {
  useful = sum_below (useful_in t v) n;
  evicting = sum_below (λ s. if_evicting (evicting_in t s) t.ways) n;
  combined = sum_below (λ s. if_evicting (evicting_in t s) (useful_in t v s)) n;
  resilient = sum_below (λ s. if_evicting (evicting_in t s) (reached_in t v s)) n;
}

abbrev pub numbers : TaskContents → View → PointNumbers
numbers t v = numbers_below t v t.sets
