use Rattle.std.proofs.Common.{◌≡◌, ℕ, ◌+◌, ◌*◌, List, ◌++◌, get_or, drop, string_bytes, ap, ◌∙◌, append_assoc}
use Rattle.numbers.specs.declared.PointNumbers.{PointNumbers}
use Rattle.sheettext.specs.Sheets.{header, last_text, point_text, sheet_text}
use Rattle.sheettext.proofs.Lines.{line_more, lines_all}
use Rattle.sheettext.proofs.analysis_text.Goals as goal

pub loop-k-preserved : goal.loop-k-preserved
loop-k-preserved c =
    let k = c.loop-k.k in
    let sheet = c.args.sheet.now in
    let none : PointNumbers = record { useful = 0; evicting = 0; combined = 0; resilient = 0 } in
    let text = string_bytes c.loop-k.text in
    let line = c.as_str.result.now in
    let pushed : string_bytes c.push_str.new.self ≡ text ++ line = c.in_ok-push_str.ensures.bytes in
    let is : line ≡ point_text k (get_or sheet k none) = c.as_str.ensures.value ∙ c.in_ok-point_line.ensures in
    ap (λ (bytes : List ℕ). bytes ++ sheet_text (k + 1) (drop (k + 1) sheet)) pushed
    ∙ line_more sheet k none text line (header ++ sheet_text 0 sheet) c.loop-k-test.true is c.loop-k.invariant

pub returns : goal.returns
returns c =
    let sheet = c.args.sheet.now in
    let text = string_bytes c.loop-k.text in
    let all = sheet_text 0 sheet in
    let line = c.as_str-2.result.now in
    let lines : text ≡ header ++ all = lines_all sheet c.loop-k.k text (header ++ all) c.loop-k-test.false c.loop-k.invariant in
    let pushed : string_bytes c.push_str-2.new.self ≡ text ++ line = c.in_ok-push_str-2.ensures.bytes in
    let largest = c.args.largest in
    let reload = c.args.reload in
    let cost : c.from.result * c.from-2.result ≡ largest * reload = cc (c.from.ensures, c.from-2.ensures) in
    let written : line ≡ last_text largest (c.from.result * c.from-2.result) = c.as_str-2.ensures.value ∙ c.in_ok-format.ensures.ok in
    pushed
    ∙ ap (λ (bytes : List ℕ). bytes ++ line) lines
    ∙ append_assoc header all line
    ∙ ap (λ (bytes : List ℕ). header ++ (all ++ bytes)) (written ∙ ap (λ (n : ℕ). last_text largest n) cost)
