-- What the answers of the code say: each case with its meaning.
use Rattle.std.specs.Prelude.{◌≡◌, true, false, [], Ok, Err, Result}
use Rattle.task.specs.declared.draft.TaskDraft.{TaskDraft}
use Rattle.task.specs.declared.faults.StartFault.{StartFault}
use Rattle.task.specs.declared.faults.StartFault.TheVariants as starts
use Rattle.task.specs.declared.faults.AddFault.{AddFault}
use Rattle.task.specs.declared.faults.AddFault.TheVariants as adds
use Rattle.task.specs.declared.faults.UnfinishedCause.{UnfinishedCause}
use Rattle.task.specs.declared.faults.UnfinishedCause.TheVariants as causes
use Rattle.task.specs.declared.parameters.CacheParameters.{CacheParameters}
use Rattle.task.specs.declared.task.Task.{Task}
use Rattle.task.specs.declared.unfinished.Unfinished.{Unfinished}
use Rattle.task.specs.Contents.{TaskContents, task_with}
use Rattle.task.specs.Legal.{legal_parameters}
use Rattle.task.specs.Adding.{Verdict, fits, unfit, too_many, Completion, whole, no_point, open_at, completion}
use Rattle.task.specs.Drafts.{draft_contents}
use Rattle.task.specs.Tasks.{contents}

-- parameters out of range are refused before memory is asked for
abbrev pub Starts : CacheParameters → Result TaskDraft StartFault → Type 0
Starts cache (Ok d) = (legal_parameters cache.sets cache.ways cache.reload ≡ true) × (draft_contents d ≡ task_with cache.sets cache.ways cache.reload [] [])
Starts cache (Err starts.Value) = legal_parameters cache.sets cache.ways cache.reload ≡ false
Starts cache (Err starts.Memory) = legal_parameters cache.sets cache.ways cache.reload ≡ true

abbrev pub verdict_said : {X : Type 0} → Result X AddFault → Verdict
verdict_said (Ok x) = fits
verdict_said (Err adds.Value) = unfit
verdict_said (Err adds.Number) = too_many

abbrev pub cause_said : UnfinishedCause → Completion
cause_said causes.NoPoint = no_point
cause_said (causes.NoSuccessor k) = open_at k

-- a draft is handed back as it was where it is not whole
abbrev pub Finishes : TaskContents → Result Task Unfinished → Type 0
Finishes d (Ok t) = (completion d.points ≡ whole) × (contents t ≡ d)
Finishes d (Err u) = (completion d.points ≡ cause_said u.cause) × (draft_contents u.draft ≡ d)
