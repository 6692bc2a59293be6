-- The line of a refusal. Assumes nothing.
use Rattle.std.proofs.Common.{◌≡◌, ◌++◌, codes, refl, append_assoc}
use Rattle.taskfile.specs.declared.fault.TaskFault.{TaskFault}
use Rattle.taskfile.specs.declared.fault.TaskFault.TheVariants.{Fields, Task, Memory}
use Rattle.taskfile.specs.Texts.{fault_text}
use Rattle.report.specs.Texts.{refusal_text}

-- what a fault prints, with a line feed
pub lined : (f : TaskFault) → fault_text f ++ codes "\n" ≡ refusal_text f
lined (Fields f) = simp append_assoc
lined (Task cause place) = simp append_assoc
lined Memory = refl
