-- What the answers of the reader and the writer say: each case with its number and values.
use Rattle.std.specs.Prelude.{◌≡◌, ℕ, ◌<◌, Bool, true, false, List, [], ◌++◌, length, drop, Ok, Err, Result, slice_index}
use Rattle.fields.specs.Layout.{FieldContents, header, point, evicting, end, FieldAt, field, fault, field_at}
use Rattle.fields.specs.Said.{number}
use Rattle.task.specs.declared.draft.TaskDraft.{TaskDraft}
use Rattle.task.specs.declared.task.Task.{Task}
use Rattle.task.specs.Contents.{TaskContents}
use Rattle.task.specs.Drafts.{draft_contents}
use Rattle.task.specs.Legal.{legal_parameters}
use Rattle.task.specs.Tasks.{contents}
use Rattle.taskformat.specs.Reading.{fields_layer, task_layer, Outcome, accepted, refused, Step, taken, ended, wrong, step, header_of, number_at}
use Rattle.taskfile.specs.declared.fault.TaskCause.{TaskCause}
use Rattle.taskfile.specs.declared.fault.TaskFault.{TaskFault}
use Rattle.taskfile.specs.declared.fault.TaskFault.TheVariants as faults
use Rattle.taskfile.specs.declared.fault.TooShort.{TooShort}
use Rattle.taskfile.specs.Numbers.{task_number}
use Rattle.taskfile.specs.declared.step.Progress.{Progress}
use Rattle.taskfile.specs.declared.step.Progress.TheVariants as progress

abbrev pub header_fits : FieldAt → Bool
header_fits (fault k at) = false
header_fits (field (header body) at after) = legal_parameters (slice_index body 0) (slice_index body 1) (number_at body 2)
header_fits (field (point body) at after) = false
header_fits (field (evicting body) at after) = false
header_fits (field end at after) = false

-- what a reader answers on a file with an outcome; `Memory` says of want of memory when it may come
abbrev pub Answered : Type 0 → Outcome → Result Task TaskFault → Type 0
Answered Memory o (Ok t) = o ≡ accepted (contents t)
Answered Memory o (Err (faults.Fields f)) = o ≡ refused fields_layer (number f.cause) f.place
Answered Memory o (Err (faults.Task cause place)) = o ≡ refused task_layer (task_number cause) place
Answered Memory o (Err faults.Memory) = Memory

-- memory is asked for once, when the header is known to be legal
abbrev pub HeaderIsLegal : List ℕ → Type 0
HeaderIsLegal file = header_fits (field_at 0 file) ≡ true

-- what the body of a header begins
abbrev pub Begun : List ℕ → Result TaskDraft TaskFault → Type 0
Begun body (Ok d) = (header_fits (field (header body) 0 []) ≡ true) × (draft_contents d ≡ header_of body)
Begun body (Err (faults.Fields f)) = ⊥
Begun body (Err (faults.Task cause place)) = (header_fits (field (header body) 0 []) ≡ false) × (task_number cause ≡ 5) × (place ≡ 0)
Begun body (Err faults.Memory) = header_fits (field (header body) 0 []) ≡ true

-- what one field made of the task so far, which is then u
abbrev pub step_said : Result Progress TaskCause → TaskContents → Step
step_said (Ok progress.Taken) u = taken u
step_said (Ok progress.Ended) u = ended
step_said (Err cause) u = wrong (task_number cause)

-- a field that is not taken leaves the task so far, t, as it was
abbrev pub KeptUnlessTaken : Result Progress TaskCause → TaskContents → TaskContents → Type 0
KeptUnlessTaken (Ok progress.Taken) t u = Unit {0}
KeptUnlessTaken (Ok progress.Ended) t u = u ≡ t
KeptUnlessTaken (Err cause) t u = u ≡ t

-- what one field made of the task so far: t became u
pub record Stepped (t : TaskContents) (f : FieldContents) (r : Result Progress TaskCause) (u : TaskContents) : Type 0 where
  pub step : step_said r u ≡ step t f
  pub kept : KeptUnlessTaken r t u

-- n bytes were written to the front of a buffer, whose rest stays
abbrev pub Filled : List ℕ → List ℕ → List ℕ → ℕ → Type 0
Filled bytes before after n = (n ≡ length bytes) × (after ≡ bytes ++ drop n before)

-- the bytes are written, or the buffer is too short for them, and stays whole
abbrev pub Written : List ℕ → List ℕ → List ℕ → Result ℕ TooShort → Type 0
Written bytes before after (Ok n) = Filled bytes before after n
Written bytes before after (Err e) = (length before < length bytes) × (after ≡ before)
