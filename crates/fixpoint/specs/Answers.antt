-- What the solver answers.
use Rattle.std.specs.Prelude.{◌≡◌, ℕ, ◌<◌, ◌≤◌, ◌⊎◌, List, length, take, drop, Ok, Err, Result}
use Rattle.std.specs.List.{AllByRecursion}
use Rattle.task.specs.Contents.{TaskContents}
use Rattle.fixpoint.specs.Kinds.{Meaning}
use Rattle.fixpoint.specs.Rounds.{Job, job_of, after_rounds}
use Rattle.fixpoint.specs.Settled.{Settled}
use Rattle.fixpoint.specs.declared.direction.Direction.{Direction}
use Rattle.fixpoint.specs.declared.fault.ShortTable.{ShortTable}

abbrev pub job : {Note : Type 0} → Direction → TaskContents → List Note → Job Note
job direction t notes = job_of direction t.points (take (length t.points) notes)

-- the first rows, one for each point, are what so many rounds give, and settled where the notes are the kind's own; the
-- others stay
pub record Solved {Row Note : Type 0} (M : Meaning Row Note) (direction : Direction) (t : TaskContents) (notes : List Note) (before after : List Row) (rounds : ℕ) : Type 0 where
  pub room : length t.points ≤ length before
  pub noted : length t.points ≤ length notes
  pub value : take (length t.points) after ≡ after_rounds M (job direction t notes) rounds
  pub rest : drop (length t.points) after ≡ drop (length t.points) before
  pub settled : AllByRecursion M.own_note (job direction t notes).notes → Settled M (job direction t notes) rounds (take (length t.points) after)

-- fewer rows or notes than points: the table stays
pub record TooShort {Row Note : Type 0} (t : TaskContents) (notes : List Note) (before after : List Row) : Type 0 where
  pub short : (length before < length t.points) ⊎ (length notes < length t.points)
  pub same : after ≡ before

abbrev pub Answer : {Row Note : Type 0} → Meaning Row Note → Direction → TaskContents → List Note → List Row → List Row → Result ℕ ShortTable → Type 0
Answer M direction t notes before after (Ok rounds) = Solved M direction t notes before after rounds
Answer M direction t notes before after (Err e) = TooShort t notes before after
