use Rattle.std.proofs.Common.{◌≡◌, ◌++◌, drop, string_bytes}
use Rattle.sheettext.specs.Sheets.{header, sheet_text}
use Rattle.sheettext.proofs.analysis_text.Given as goal

-- the text so far and the lines of the points from k on are the header and the lines of all points
abbrev pub invariant-loop-k : goal.invariant-loop-k
invariant-loop-k l = string_bytes l.text ++ sheet_text l.k (drop l.k l.sheet) ≡ header ++ sheet_text 0 l.sheet
