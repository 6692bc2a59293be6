-- The sheet of a task: a record of four numbers for each point, and the largest resilient number.
use Rattle.std.specs.Prelude.{ℕ, zero, suc, max, List, [], ◌∷◌, ◌++◌, length}
use Rattle.task.specs.Contents.{TaskContents}
use Rattle.numbers.specs.declared.PointNumbers.{PointNumbers}
use Rattle.tables.specs.Rows.{Rows, numbers_at, settled_rows}

-- the records of the first k points, from what the tables hold
unfoldable pub sheet_below : TaskContents → Rows → ℕ → List PointNumbers
sheet_below t rows zero = []
sheet_below t rows (suc k) = sheet_below t rows k ++ (numbers_at t rows k ∷ [])

-- the records of all points, from the settled tables
abbrev pub sheet : TaskContents → List PointNumbers
sheet t = sheet_below t (settled_rows t) (length t.points)

-- the largest resilient number of a sheet
abbrev pub largest : List PointNumbers → ℕ
largest [] = 0
largest (n ∷ ns) = max n.resilient (largest ns)
