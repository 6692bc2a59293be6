-- A round over a table: each point's row is replaced, at once, by the merge over its inputs.
use Rattle.std.specs.Prelude.{ℕ, zero, suc, cond, List, [], ◌∷◌, length, replicate, slice_set}
use Rattle.task.specs.Contents.{PointContents}
use Rattle.fixpoint.specs.Kinds.{Meaning}
use Rattle.fixpoint.specs.Graph.{is_input, visited_at}
use Rattle.fixpoint.specs.declared.direction.Direction.{Direction}

-- what is to be settled: the direction, the points, and a note for each of them
pub record Job (Note : Type 0) : Type 0 where
  pub direction : Direction
  pub points : List PointContents
  pub notes : List Note

abbrev pub job_of : {Note : Type 0} → Direction → List PointContents → List Note → Job Note
job_of direction points notes = record { direction = direction; points = points; notes = notes }

abbrev pub size : {Note : Type 0} → Job Note → ℕ
size J = length J.points

module _ {Row Note : Type 0} (M : Meaning Row Note) (J : Job Note) where
  -- the row of point q, advanced by its note
  abbrev pub advanced : List Row → List Note → ℕ → Row
  advanced [] notes q = M.start
  advanced (r ∷ rows) [] q = M.start
  advanced (r ∷ rows) (n ∷ notes) zero = M.advance r n
  advanced (r ∷ rows) (n ∷ notes) (suc q) = advanced rows notes q

  -- the merge, beginning from the start row, of the advanced rows of those inputs of p that are below k
  unfoldable pub merged_below : List Row → ℕ → ℕ → Row
  merged_below rows p zero = M.start
  merged_below rows p (suc k) =
      cond (is_input J.direction J.points p k) (M.merge (merged_below rows p k) (advanced rows J.notes k)) (merged_below rows p k)

  -- over all inputs of p
  abbrev pub merged : List Row → ℕ → Row
  merged rows p = merged_below rows p (size J)

  -- the first k visits of a round
  unfoldable pub visits : ℕ → List Row → List Row
  visits zero rows = rows
  visits (suc k) rows = slice_set (visits k rows) (visited_at J.direction (size J) k) (merged (visits k rows) (visited_at J.direction (size J) k))

  abbrev pub round : List Row → List Row
  round rows = visits (size J) rows

  abbrev pub all_start : List Row
  all_start = replicate (size J) M.start

  -- the table after r rounds from the all-start table
  unfoldable pub after_rounds : ℕ → List Row
  after_rounds zero = all_start
  after_rounds (suc r) = round (after_rounds r)
