use Rattle.std.proofs.Common.{◌≡◌, max, drop}
use Rattle.analysis.specs.Sheets.{largest}
use Rattle.analysis.proofs.sheet.largest_of.Given as goal

-- the largest so far, and that of what is left
abbrev pub invariant-loop-numbers : goal.invariant-loop-numbers
invariant-loop-numbers l = max l.most (largest (drop l.numbers-index l.sheet)) ≡ largest l.sheet
