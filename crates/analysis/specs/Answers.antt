-- What analysing a task answers.
use Rattle.std.specs.Prelude.{◌≡◌, ◌<◌, ◌≤◌, ◌⊎◌, List, length, take, drop, Ok, Err, Result}
use Rattle.task.specs.Contents.{TaskContents}
use Rattle.fixpoint.specs.declared.fault.ShortTable.{ShortTable}
use Rattle.numbers.specs.declared.PointNumbers.{PointNumbers}
use Rattle.tables.specs.Answers.{AllSettled}
use Rattle.tables.specs.Rows.{Rows, shortest}
use Rattle.analysis.specs.Sheets.{largest, sheet}
use Rattle.analysis.specs.declared.Analysis.{Analysis}

-- the tables are settled; the first records, one for each point, are the sheet of the task, and the others stay; the
-- largest resilient number is that of the sheet
pub record Analysed (t : TaskContents) (before after : Rows) (blank filled : List PointNumbers) (a : Analysis) : Type 0 where
  pub tables : AllSettled t before after a.rounds
  pub room : length t.points ≤ length blank
  pub records : take (length t.points) filled ≡ sheet t
  pub rest : drop (length t.points) filled ≡ drop (length t.points) blank
  pub most : a.largest ≡ largest (sheet t)

-- a table or the sheet is shorter than the points, and all stay
pub record TooShort (t : TaskContents) (before after : Rows) (blank filled : List PointNumbers) : Type 0 where
  pub short : (length blank < length t.points) ⊎ (shortest before < length t.points)
  pub tables_stay : after ≡ before
  pub sheet_stays : filled ≡ blank

abbrev pub Analysing : TaskContents → Rows → Rows → List PointNumbers → List PointNumbers → Result Analysis ShortTable → Type 0
Analysing t before after blank filled (Ok a) = Analysed t before after blank filled a
Analysing t before after blank filled (Err e) = TooShort t before after blank filled
