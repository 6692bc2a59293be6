-- The number of each cause of the task layer, and of the writer's.
use Rattle.std.specs.Prelude.{ℕ}
use Rattle.taskfile.specs.declared.fault.TaskCause.{TaskCause}
use Rattle.taskfile.specs.declared.fault.TaskCause.TheVariants as causes

-- field out of order; value out of range, not rising, or length unfit for the mark; too many points or blocks;
-- successor that the file lacks; bytes after the end field
abbrev pub task_number : TaskCause → ℕ
task_number causes.Order = 3
task_number causes.Value = 5
task_number causes.Number = 6
task_number causes.Successor = 7
task_number causes.Trailing = 8

-- buffer too short to write into
abbrev pub too_short_number : ℕ
too_short_number = 9
