-- What the analysis of a whole task holds.
use Rattle.std.specs.Prelude.{◌≡◌, length, take}
use Rattle.task.specs.Contents.{TaskContents}
use Rattle.fixpoint.specs.Settled.{Settled, settled_table}
use Rattle.tables.specs.Tables.{age_job, age_kind, conflict_kind, next_use_job, next_use_kind, reuse_job}
use Rattle.tables.specs.declared.Rounds.{Rounds}
use Rattle.analysis.specs.Sheets.{largest, sheet}
use Rattle.answer.specs.declared.sheet.TaskSheet.{TaskSheet}

-- how many rounds each table of the task takes
pub record RoundsTaken (t : TaskContents) (rounds : Rounds) : Type 0 where
  pub ages : Settled (age_kind t) (age_job t) rounds.ages (settled_table (age_kind t) (age_job t))
  pub reuses : Settled (age_kind t) (reuse_job t) rounds.reuses (settled_table (age_kind t) (reuse_job t))
  pub conflicts : Settled (conflict_kind t) (age_job t) rounds.conflicts (settled_table (conflict_kind t) (age_job t))
  pub widest : Settled (next_use_kind t) (next_use_job t) rounds.widest (settled_table (next_use_kind t) (next_use_job t))

-- the first records, one for each point, are the sheet of the task
pub record HoldsTheSheet (t : TaskContents) (s : TaskSheet) : Type 0 where
  pub records : take (length t.points) s.records ≡ sheet t
  pub most : s.largest ≡ largest (sheet t)
  pub rounds : RoundsTaken t s.rounds
