-- Reading and writing are inverse.
use Rattle.std.specs.Prelude.{◌≡◌, ℕ, ◌<◌, true, List}
use Rattle.std.specs.List.{AllByRecursion}
use Rattle.task.specs.Contents.{TaskContents}
use Rattle.task.specs.Legal.{legal}
use Rattle.taskformat.specs.Reading.{accepted, meaning}
use Rattle.taskformat.specs.Writing.{task_bytes}

-- rereading what was written keeps the task; so every legal task has a file that is accepted
abbrev pub RereadingKeepsTheTask : Type 0
RereadingKeepsTheTask = (t : TaskContents) → legal t ≡ true → meaning (task_bytes t) ≡ accepted t

-- writing what was read keeps the bytes; so every accepted task has one file
abbrev pub RewritingKeepsTheBytes : Type 0
RewritingKeepsTheBytes = (file : List ℕ) (t : TaskContents) → AllByRecursion (λ b. b < 256) file → meaning file ≡ accepted t → task_bytes t ≡ file
