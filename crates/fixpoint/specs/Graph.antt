-- The inputs of a point in a forward and in a backward table, and the order in which a round visits the points.
use Rattle.std.specs.Prelude.{ℕ, ◌-◌, Bool, List, [], None, slice_index_or}
use Rattle.recency.specs.Blocks.{has}
use Rattle.task.specs.Contents.{PointContents, point_with}
use Rattle.fixpoint.specs.declared.direction.Direction.{Direction}
use Rattle.fixpoint.specs.declared.direction.Direction.TheVariants.{Forward, Backward}

-- point p may be followed by point q
abbrev pub leads_to : List PointContents → ℕ → ℕ → Bool
leads_to points p q = has q (slice_index_or points p (point_with None [])).successors

-- q is an input of p: a predecessor in a forward table, a successor in a backward one
abbrev pub is_input : Direction → List PointContents → ℕ → ℕ → Bool
is_input Forward points p q = leads_to points q p
is_input Backward points p q = leads_to points p q

-- the k-th point of a round, of n: rising in a forward table, falling in a backward one
abbrev pub visited_at : Direction → ℕ → ℕ → ℕ
visited_at Forward n k = k
visited_at Backward n k = n - 1 - k
