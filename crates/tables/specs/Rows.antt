-- What four tables hold, and what they say of a point.
use Rattle.std.specs.Prelude.{ℕ, min, List, length, get_or, slice_index_or}
use Rattle.task.specs.Blocks.{access_at, access_index}
use Rattle.task.specs.Contents.{TaskContents}
use Rattle.rowkinds.specs.declared.ages.Ages.{Ages}
use Rattle.conflicts.specs.declared.Conflicts.{Conflicts}
use Rattle.numbers.specs.Numbers.{view, numbers}
use Rattle.numbers.specs.declared.view.View.{View}
use Rattle.numbers.specs.declared.PointNumbers.{PointNumbers}
use Rattle.widest.specs.declared.next_uses.NextUses.{NextUses}
use Rattle.tables.specs.Tables.{age_kind, blocks, conflict_kind, next_use_kind, settled_ages, settled_reuses, settled_conflicts, settled_widest, use_note}
use Rattle.tables.specs.declared.Tables.{Tables}

pub record Rows : Type 0 where
  pub ages : List Ages
  pub reuses : List Ages
  pub conflicts : List Conflicts
  pub widest : List NextUses

abbrev pub rows_with : List Ages → List Ages → List Conflicts → List NextUses → Rows
rows_with ages reuses conflicts widest = record { ages = ages; reuses = reuses; conflicts = conflicts; widest = widest }

abbrev pub rows_of : Tables → Rows
rows_of x = rows_with x.ages.rows.now x.reuses.rows.now x.conflicts.rows.now x.widest.rows.now

-- the number of rows of the shortest table
abbrev pub shortest : Rows → ℕ
shortest rows = min (min (length rows.ages) (length rows.reuses)) (min (length rows.conflicts) (length rows.widest))

-- the settled rows of a task
abbrev pub settled_rows : TaskContents → Rows
settled_rows t = rows_with (settled_ages t) (settled_reuses t) (settled_conflicts t) (settled_widest t)

-- what the tables say of point p, which is interrupted before its access: ages and conflict sets are read before the
-- access, reuse distances and widest next uses from the point's row advanced by the access
abbrev pub view_at : TaskContents → Rows → ℕ → View
view_at t rows p =
    let note = access_index (blocks t) (access_at t.points p) in
    let conflicts = get_or rows.conflicts p (conflict_kind t).start in
    view
    (slice_index_or rows.ages p (age_kind t).start)
    ((age_kind t).advance (slice_index_or rows.reuses p (age_kind t).start) note)
    ((next_use_kind t).advance (slice_index_or rows.widest p (next_use_kind t).start) (use_note conflicts note))

-- the four numbers of point p
abbrev pub numbers_at : TaskContents → Rows → ℕ → PointNumbers
numbers_at t rows p = numbers t (view_at t rows p)
