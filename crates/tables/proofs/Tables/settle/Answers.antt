use Rattle.std.proofs.Common.{◌≡◌, length, take, arith}
use Rattle.task.specs.Tasks.{contents}
use Rattle.task.proofs.Drafting.{kept}
use Rattle.fixpoint.specs.declared.direction.Direction.TheVariants.{Forward, Backward}
use Rattle.conflicts.specs.Conflicts.{conflicts_meaning}
use Rattle.tables.specs.Tables.{use_notes}
use Rattle.tables.proofs.Settles.{ages_settle, conflicts_settle, widest_settle, solved_room}
use Rattle.tables.proofs.Tables.settle.Goals as goal

pub returns : goal.returns
returns c =
    let t = contents c.args.task.now in
    let n = c.points-n.ensures.many in
    let few = (kept t c.args.task.now.draft.legal).blocks_few in
    let notes = c.access_notes-notes.result in
    let e = c.access_notes-notes.ensures.notes in
    let kind = c.of-kind.ensures in
    let here = c.args.self.now in
    let settled = conflicts_settle t notes e c.of.result.blocks c.of.ensures.blocks Forward here.conflicts.rows.now c.settle_one-conflicts.new.table.rows.now c.settle_one-conflicts.result c.of.result.sets c.of.ensures.sets c.settle_one-conflicts.ensures.solved in
    let uses : take (length t.points) c.use_notes-uses.result ≡ use_notes (take (length t.points) c.settle_one-conflicts.new.table.rows.now) (take (length t.points) notes) =
    (let points = (kept t c.args.task.now.draft.legal).points_few in
    let room = solved_room (conflicts_meaning c.of.result.blocks c.of.result.sets) Forward t notes here.conflicts.rows.now c.settle_one-conflicts.new.table.rows.now c.settle_one-conflicts.result c.settle_one-conflicts.ensures.solved in
    c.use_notes-uses.ensures.notes (length t.points) points (omega (arith, room))) in
    record {
      answer = record {
        ages = ages_settle t notes e c.of-kind.result.blocks kind.blocks Forward here.ages.rows.now c.settle_one-ages.new.table.rows.now c.settle_one-ages.result c.of-kind.result.ways c.of-kind.result.sets kind.ways kind.sets c.settle_one-ages.ensures.solved;
        reuses = ages_settle t notes e c.of-kind.result.blocks kind.blocks Backward here.reuses.rows.now c.settle_one-reuses.new.table.rows.now c.settle_one-reuses.result c.of-kind.result.ways c.of-kind.result.sets kind.ways kind.sets c.settle_one-reuses.ensures.solved;
        conflicts = settled;
        widest = widest_settle t few c.use_notes-uses.result here.conflicts.rows.now c.settle_one-conflicts.new.table.rows.now c.settle_one-conflicts.result settled notes e uses Backward here.widest.rows.now c.settle_one-widest.new.table.rows.now c.settle_one-widest.result c.of-2.result.blocks c.of-2.ensures c.settle_one-widest.ensures.solved;
      };
      lent = record { ages = c.settle_one-ages.ensures.lent; reuses = c.settle_one-reuses.ensures.lent; conflicts = c.settle_one-conflicts.ensures.lent; widest = c.settle_one-widest.ensures.lent };
    }
