use Rattle.std.proofs.Common.{◌≤◌, length, subst}
use Rattle.task.specs.Contents.{TaskContents}
use Rattle.task.specs.Tasks.{contents}
use Rattle.task.proofs.Drafting.{kept}
use Rattle.fixpoint.specs.Settled.{Settled}
use Rattle.tables.specs.Answers.{AllSettled}
use Rattle.tables.specs.Rows.{Rows}
use Rattle.tables.specs.Tables.{age_job, age_kind, blocks, conflict_kind, next_use_job, next_use_kind, reuse_job}
use Rattle.tables.specs.declared.Rounds.{Rounds}
use Rattle.tables.proofs.Settles.{ages_value, conflicts_value, reuses_value, widest_value}
use Rattle.answer.specs.Sheets.{RoundsTaken}
use Rattle.answer.proofs.sheet.TaskSheet.of.Goals as goal

-- the rounds that settled the tables are those that the settled tables take
taken : (t : TaskContents) (before after : Rows) (rounds : Rounds) → length (blocks t) ≤ 64 → AllSettled t before after rounds → RoundsTaken t rounds
taken t before after rounds few all =
    record {
      ages = subst (Settled (age_kind t) (age_job t) rounds.ages) (ages_value t few before after rounds all) all.ages.settled;
      reuses = subst (Settled (age_kind t) (reuse_job t) rounds.reuses) (reuses_value t few before after rounds all) all.reuses.settled;
      conflicts = subst (Settled (conflict_kind t) (age_job t) rounds.conflicts) (conflicts_value t few before after rounds all) all.conflicts.settled;
      widest = subst (Settled (next_use_kind t) (next_use_job t) rounds.widest) (widest_value t few before after rounds all) all.widest.settled;
    }

pub returns : goal.returns
returns c =
    let t = contents c.args.task.now in
    let a = rw c.unwrap-largest.ensures at c.analyse.ensures.answer in
    record {
      records = a.records;
      most = a.most;
      rounds = taken t _ _ _ (kept t c.args.task.now.draft.legal).blocks_few a.tables;
    }
