use Rattle.std.proofs.Common.{◌≡◌, length, take}
use Rattle.task.specs.Tasks.{contents}
use Rattle.tables.specs.Rows.{rows_of}
use Rattle.analysis.specs.Sheets.{sheet_below}
use Rattle.analysis.proofs.sheet.fill.Given as goal

-- the records of the points so far
abbrev pub invariant-loop-p : goal.invariant-loop-p
invariant-loop-p l = record {
  room : length l.sheet ≡ length l.initial.sheet;
  filled : take l.p l.sheet ≡ sheet_below (contents l.task) (rows_of l.tables) l.p;
}
