-- Answers of the reader, carried from the end of a file to the whole. Assumes nothing.
use Rattle.std.proofs.Common.{◌≡◌, IfOk, Ok, Err, Result, ◌∙◌}
use Rattle.task.specs.declared.task.Task.{Task}
use Rattle.task.specs.Contents.{TaskContents}
use Rattle.task.specs.Tasks.{contents}
use Rattle.taskformat.specs.Reading.{Outcome, accepted}
use Rattle.taskfile.specs.Answers.{Answered}
use Rattle.taskfile.specs.declared.fault.TaskFault.{TaskFault}
use Rattle.taskfile.specs.declared.fault.TaskFault.TheVariants as faults

pub answered_as : (M : Type 0) (o p : Outcome) (r : Result Task TaskFault) → p ≡ o → Answered ⊥ o r → Answered M p r
answered_as M o p (Ok t) e h = e ∙ h
answered_as M o p (Err (faults.Fields f)) e h = e ∙ h
answered_as M o p (Err (faults.Task cause place)) e h = e ∙ h
answered_as M o p (Err faults.Memory) e h = absurd h

-- what holds of a task that a file is accepted as, holds of the task that was read
pub accepted_made : (M : Type 0) (o : Outcome) (P : TaskContents → Type 0) (r : Result Task TaskFault) → ((t : TaskContents) → o ≡ accepted t → P t) → Answered M o r → IfOk r (λ t. P (contents t))
accepted_made M o P (Ok t) f h = f (contents t) h
accepted_made M o P (Err (faults.Fields g)) f h = tt
accepted_made M o P (Err (faults.Task cause place)) f h = tt
accepted_made M o P (Err faults.Memory) f h = tt
