-- The blocks that a task's points access.
use Rattle.std.specs.Prelude.{◌≡◌, ℕ, zero, suc, Bool, true, false, cond, ◌||◌, List, [], ◌∷◌, ◌++◌, Some, None, Option, ◌==◌, nat_eq}
use Rattle.recency.specs.Blocks.{distinct, has}
use Rattle.task.specs.Contents.{PointContents}
use Rattle.task.specs.Lists.{first_from}

-- the blocks seen so far, after one more access
abbrev pub noted : List ℕ → Option ℕ → List ℕ
noted seen None = seen
noted seen (Some b) = cond (has b seen) seen (seen ++ (b ∷ []))

abbrev pub noted_all : List ℕ → List PointContents → List ℕ
noted_all seen [] = seen
noted_all seen (p ∷ ps) = noted_all (noted seen p.access) ps

-- the distinct blocks of the points' accesses, in order of first appearance
abbrev pub distinct_blocks : List PointContents → List ℕ
distinct_blocks ps = noted_all [] ps

abbrev pub is_access : ℕ → Option ℕ → Bool
is_access b None = false
is_access b (Some x) = b == x

-- some point accesses b
abbrev pub accessed : ℕ → List PointContents → Bool
accessed b [] = false
accessed b (p ∷ ps) = is_access b p.access || accessed b ps

-- a list has just the blocks that the points access, each of them once
pub record ListsEachAccessOnce (ps : List PointContents) (blocks : List ℕ) : Type 0 where
  pub once : distinct blocks ≡ true
  pub exactly : (b : ℕ) → has b blocks ≡ accessed b ps

-- the index among the distinct blocks of what a point accesses
abbrev pub access_index : List ℕ → Option ℕ → Option ℕ
access_index blocks None = None
access_index blocks (Some b) = first_from 0 (nat_eq b) blocks

abbrev pub access_at : List PointContents → ℕ → Option ℕ
access_at [] k = None
access_at (p ∷ ps) zero = p.access
access_at (p ∷ ps) (suc k) = access_at ps k
