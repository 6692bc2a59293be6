-- How a fault prints.
use Rattle.std.specs.Prelude.{ℕ, List, [], ◌∷◌, codes, decimal}
use Rattle.std.specs.List.{concat}
use Rattle.fields.specs.Said.{number}
use Rattle.taskfile.specs.declared.fault.TaskFault.{TaskFault}
use Rattle.taskfile.specs.declared.fault.TaskFault.TheVariants.{Fields, Task, Memory}
use Rattle.taskfile.specs.Numbers.{task_number}

-- a refusal by a layer, with the number of its cause and the place in the file
abbrev pub placed_text : List ℕ → ℕ → ℕ → List ℕ
placed_text layer n place = concat (codes "refused " ∷ layer ∷ codes " " ∷ decimal n ∷ codes " at " ∷ decimal place ∷ [])

abbrev pub fault_text : TaskFault → List ℕ
fault_text (Fields f) = placed_text (codes "fields") (number f.cause) f.place
fault_text (Task cause place) = placed_text (codes "task") (task_number cause) place
fault_text Memory = codes "out of memory"
