-- The parts of reading, each as a function of what it goes by.
use Rattle.std.proofs.Common.{ℕ, ◌+◌, List}
use Rattle.fields.specs.Layout.{FieldContents, FieldAt, field, fault, body_length}
use Rattle.task.specs.Contents.{TaskContents}
use Rattle.taskformat.specs.Reading.{Outcome, refused, fields_layer, task_layer, Step, taken, ended, wrong, step, closed, reading, begun}

abbrev pub after_step : ℕ → ℕ → TaskContents → FieldContents → List ℕ → Step → Outcome
after_step n place t f after s =
    elim s [
      | taken u ↦ reading n (place + (3 + body_length f)) after u
      | ended ↦ closed (place + 3) after t
      | wrong number ↦ refused task_layer number place
    ]

abbrev pub after_field : ℕ → ℕ → TaskContents → FieldAt → Outcome
after_field n place t x =
    elim x [
      | fault number at ↦ refused fields_layer number at
      | field f at after ↦ after_step n place t f after (step t f)
    ]

abbrev pub after_first : FieldAt → Outcome
after_first x =
    elim x [
      | fault number at ↦ refused fields_layer number at
      | field f at after ↦ begun f after
    ]
