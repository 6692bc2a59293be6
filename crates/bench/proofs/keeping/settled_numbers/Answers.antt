use Rattle.std.proofs.Common.{◌≡◌, ◌≤◌, length, Ok, Err, Result, ap, subst, ◌∙◌, arith, rules}
use Rattle.task.specs.Tasks.{contents}
use Rattle.task.proofs.Drafting.{kept}
use Rattle.task.specs.Contents.{TaskContents}
use Rattle.std.specs.Result.{IsOk}
use Rattle.tables.specs.Answers.{AllSettled, Settling}
use Rattle.tables.specs.declared.Rounds.{Rounds}
use Rattle.fixpoint.specs.declared.fault.ShortTable.{ShortTable}
use Rattle.tables.specs.Rows.{Rows, rows_of, settled_rows, shortest}
use Rattle.tables.proofs.Settles.{ages_value, conflicts_value, reuses_value, widest_value}
use Rattle.analysis.proofs.Sheets.{same_numbers, settled_room}
use Rattle.bench.proofs.keeping.settled_numbers.Goals as goal

is_settled : (t : TaskContents) (before after : Rows) (r : Result Rounds ShortTable) → length t.points ≤ shortest before → Settling t before after r → IsOk r
is_settled t before after (Ok rounds) room all = search rules
is_settled t before after (Err e) room all = absurd (omega (arith, all.0))

pub unwrap-requires : goal.unwrap-requires
unwrap-requires c = is_settled (contents c.args.task.now) _ _ _ c.requires c.settle.ensures.answer

all_settled : (t : TaskContents) (before after : Rows) (r : Result Rounds ShortTable) (rounds : Rounds) → r ≡ Ok rounds → Settling t before after r → AllSettled t before after rounds
all_settled t before after r rounds e answer = subst (Settling t before after) e answer

pub resilient_numbers-requires : goal.resilient_numbers-requires
resilient_numbers-requires c =
    let t = contents c.args.task.now in
    settled_room t _ _ c.unwrap.result (all_settled t _ _ _ _ c.unwrap.ensures c.settle.ensures.answer)

pub returns : goal.returns
returns c =
    let t = contents c.args.task.now in
    let few = (kept t c.args.task.now.draft.legal).blocks_few in
    let before = rows_of c.args.tables.now in
    let after = rows_of c.settle.new.self in
    let all = all_settled t before after _ c.unwrap.result c.unwrap.ensures c.settle.ensures.answer in
    record {
      room = c.resilient_numbers.ensures.room;
      numbers = λ p h.
          c.resilient_numbers.ensures.numbers p h
          ∙ ap (λ x. x.resilient) (same_numbers t after (settled_rows t) (length t.points) (ages_value t few before after c.unwrap.result all) (reuses_value t few before after c.unwrap.result all) (conflicts_value t few before after c.unwrap.result all) (widest_value t few before after c.unwrap.result all) p h);
      past = c.resilient_numbers.ensures.past;
      settled = (c.unwrap.result, all);
      lent = c.settle.ensures.lent;
    }
