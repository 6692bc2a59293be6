use Rattle.std.proofs.Common.{length}
use Rattle.task.specs.Drafts.{draft_contents}
use Rattle.taskfile.proofs.Fieldwise.{Sofar}
use Rattle.taskfile.proofs.read.read_fields.Given as goal

abbrev pub invariant-fields : goal.invariant-fields
invariant-fields l = Sofar l.file l.place l.rest (draft_contents l.draft)

abbrev pub decreases-fields : goal.decreases-fields
decreases-fields l = length l.rest
