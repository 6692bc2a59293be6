-- What the program prints for a file.
use Rattle.std.specs.Prelude.{ℕ, List, codes}
use Rattle.taskformat.specs.Reading.{Layer, fields_layer, task_layer, Outcome, accepted, refused, meaning}
use Rattle.analysis.specs.Sheets.{largest, sheet}
use Rattle.sheettext.specs.Sheets.{analysis_text}
use Rattle.report.specs.Texts.{placed_text}

abbrev pub layer_name : Layer → List ℕ
layer_name fields_layer = codes "fields"
layer_name task_layer = codes "task"

-- the sheet of an accepted task, or the refusal
abbrev pub outcome_text : Outcome → List ℕ
outcome_text (accepted t) = analysis_text (sheet t) (largest (sheet t)) t.reload
outcome_text (refused layer n place) = placed_text (layer_name layer) n place

abbrev pub printed : List ℕ → List ℕ
printed file = outcome_text (meaning file)
