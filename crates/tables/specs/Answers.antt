-- What settling four tables answers.
use Rattle.std.specs.Prelude.{◌≡◌, ℕ, ◌<◌, ◌≤◌, List, length, take, drop, Some, None, Ok, Err, Option, Result}
use Rattle.task.specs.Contents.{TaskContents}
use Rattle.fixpoint.specs.Kinds.{Meaning}
use Rattle.fixpoint.specs.Rounds.{Job, size}
use Rattle.fixpoint.specs.Settled.{Settled}
use Rattle.fixpoint.specs.declared.fault.ShortTable.{ShortTable}
use Rattle.numbers.specs.declared.PointNumbers.{PointNumbers}
use Rattle.tables.specs.Tables.{age_job, age_kind, conflict_kind, next_use_job, next_use_kind, reuse_job}
use Rattle.tables.specs.Rows.{Rows, numbers_at, shortest}
use Rattle.tables.specs.declared.Rounds.{Rounds}
use Rattle.tables.specs.declared.Tables.{Tables}

-- the first rows of a table, one for each point, are settled after so many rounds; the others stay
pub record Settles {Row Note : Type 0} (M : Meaning Row Note) (J : Job Note) (before after : List Row) (rounds : ℕ) : Type 0 where
  pub room : size J ≤ length before
  pub settled : Settled M J rounds (take (size J) after)
  pub rest : drop (size J) after ≡ drop (size J) before

pub record AllSettled (t : TaskContents) (before after : Rows) (rounds : Rounds) : Type 0 where
  pub ages : Settles (age_kind t) (age_job t) before.ages after.ages rounds.ages
  pub reuses : Settles (age_kind t) (reuse_job t) before.reuses after.reuses rounds.reuses
  pub conflicts : Settles (conflict_kind t) (age_job t) before.conflicts after.conflicts rounds.conflicts
  pub widest : Settles (next_use_kind t) (next_use_job t) before.widest after.widest rounds.widest

-- the tables are settled, or one is shorter than the points and all stay
abbrev pub Settling : TaskContents → Rows → Rows → Result Rounds ShortTable → Type 0
Settling t before after (Ok rounds) = AllSettled t before after rounds
Settling t before after (Err e) = (shortest before < length t.points) × (after ≡ before)

-- the same memory is lent. No invariant can say it, since a loan's name is no part of what the tables hold; so each call that is
-- handed tables does
pub record SameMemory (before after : Tables) : Type 0 where
  pub ages : after.ages.rows.ghost_name ≡ before.ages.rows.ghost_name
  pub reuses : after.reuses.rows.ghost_name ≡ before.reuses.rows.ghost_name
  pub conflicts : after.conflicts.rows.ghost_name ≡ before.conflicts.rows.ghost_name
  pub widest : after.widest.rows.ghost_name ≡ before.widest.rows.ghost_name

-- the four numbers of a point, where each table has its row
abbrev pub Numbered : TaskContents → Rows → ℕ → Option PointNumbers → Type 0
Numbered t rows p (Some n) = (p < shortest rows) × (n ≡ numbers_at t rows p)
Numbered t rows p None = shortest rows ≤ p
