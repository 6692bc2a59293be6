use Rattle.std.proofs.Common.{◌≡◌, ℕ, List, IfOk, string_bytes, ap, ◌∙◌, subst}
use Rattle.runtext.specs.Answers.{answer_text, call_words, line_with}
use Rattle.runtext.proofs.answers.answer_line.Goals as goal

pub returns : goal.returns
returns c =
    let said = string_bytes c.in_ok-said.said in
    let line : line_with (string_bytes c.in_ok-words.words) said ≡ answer_text c.args.call c.args.answer =
    ap (λ (words : List ℕ). line_with words said) c.in_ok-words.ensures
    ∙ ap (line_with (call_words c.args.call)) c.in_ok-said.ensures in
    subst (λ (bytes : List ℕ). IfOk c.format.result (λ s. string_bytes s ≡ bytes)) line c.format.ensures.ok
