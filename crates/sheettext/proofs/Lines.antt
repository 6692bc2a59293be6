-- The lines of a sheet, one by one.
use Rattle.std.proofs.Common.{◌≡◌, ℕ, suc, ◌+◌, ◌<◌, ◌≤◌, List, ◌++◌, length, get_or, drop, sym, ap, ◌∙◌, append_assoc, add-one}
use Rattle.std.proofs.lemmas.List.{append-nil, at_drop_more, at_drop_all}
use Rattle.numbers.specs.declared.PointNumbers.{PointNumbers}
use Rattle.sheettext.specs.Sheets.{point_text, sheet_text}

-- the line of point k goes from the lines to come to the text so far
pub line_more : (ns : List PointNumbers) (k : ℕ) (d : PointNumbers) (text line all : List ℕ) → k < length ns → line ≡ point_text k (get_or ns k d) → text ++ sheet_text k (drop k ns) ≡ all → (text ++ line) ++ sheet_text (k + 1) (drop (k + 1) ns) ≡ all
line_more ns k d text line all lt is so_far =
    let rest = sheet_text (suc k) (drop (k + 1) ns) in
    ap (λ (j : ℕ). (text ++ line) ++ sheet_text j (drop (k + 1) ns)) (add-one k)
    ∙ append_assoc text line rest
    ∙ ap (λ (l : List ℕ). text ++ (l ++ rest)) is
    ∙ ap (λ (l : List ℕ). text ++ l) (sym (at_drop_more (sheet_text k) ns k d lt))
    ∙ so_far

-- past the last point the text has all lines
pub lines_all : (ns : List PointNumbers) (k : ℕ) (text all : List ℕ) → length ns ≤ k → text ++ sheet_text k (drop k ns) ≡ all → text ≡ all
lines_all ns k text all le so_far =
    sym (append-nil text)
    ∙ ap (λ (l : List ℕ). text ++ l) (sym (at_drop_all (sheet_text k) ns k le))
    ∙ so_far
