-- The words and numbers of a line.
use Rattle.std.proofs.Common.{◌≡◌, ℕ, ◌^◌, ◌<◌, Bool, true, false, cond, ◌&&◌, eqb, ltb, List, [], ◌∷◌, ◌++◌, length, get_or, Some, None, Ok, Err, codes, Decides, Result, sym, refl, ap, ◌∙◌, eqb-true, Option, arith}
use Rattle.std.proofs.lemmas.Bool.{eqb-false}
use Rattle.std.proofs.lemmas.Str.Parse.{IsNumeralModel, numerals_by_value, parse_plain, tells_all_ascii_digits}
use Rattle.std.proofs.lemmas.Bool.Decides.{Decides-and, Decides-ltb}
use Rattle.std.specs.List.{list_all}
use Rattle.std.specs.Result.{OkIff, result_ok}
use Rattle.std.specs.Str.Parse.{ParsesUnsigned, digits_value}
use Rattle.std.specs.Str.{all_ascii_digits}
use Rattle.runtext.specs.Calls.{all_blank, call_of, number_of, step_with, touch_with}

decimals : IsNumeralModel (λ ds. all_ascii_digits ds ≡ true) (digits_value 10)
decimals = numerals_by_value (λ ds. all_ascii_digits ds ≡ true) tells_all_ascii_digits

decides_itself : (t : Bool) → Decides t (t ≡ true)
decides_itself t = (λ e. e, λ e. e)

converted_by_test : {E : Type 0} (r : Result ℕ E) (P : Type 0) (v : ℕ) (t : Bool) → OkIff r P v → Decides t P → result_ok r ≡ cond t (Some v) None
converted_by_test (Ok x) P v t (p, e) d = rw (d.1 p) (ap Some e)
converted_by_test (Err x) P v true not d = absurd (not (d.0 refl))
converted_by_test (Err x) P v false not d = refl

-- what `parse` gives of a text without `+`
parsed_number : {E : Type 0} (bits : ℕ) (ds : List ℕ) (r : Result ℕ E) → ParsesUnsigned bits 10 ds r → (get_or ds 0 0 ≡ 43 → ⊥) → result_ok r ≡ number_of bits ds
parsed_number bits ds r reads plain =
    let some = ltb 0 (length ds) in
    let small = ltb (digits_value 10 ds) (2 ^ bits) in
    let nested : Decides (all_ascii_digits ds && (some && small)) ((all_ascii_digits ds ≡ true) × ((0 < length ds) × (digits_value 10 ds < 2 ^ bits))) =
    Decides-and (all_ascii_digits ds) (some && small) (decides_itself (all_ascii_digits ds)) (Decides-and some small (Decides-ltb 0 (length ds)) (Decides-ltb (digits_value 10 ds) (2 ^ bits))) in
    converted_by_test r _ (digits_value 10 ds) (all_ascii_digits ds && (some && small)) (parse_plain decimals bits ds r reads plain)
    (λ e. ((nested.0 e).0, (nested.0 e).1.0, (nested.0 e).1.1), λ p. nested.1 (p.0, (p.1, p.2)))

signed_none : (bits : ℕ) (ds : List ℕ) → get_or ds 0 0 ≡ 43 → None ≡ number_of bits ds
signed_none bits [] e = absurd (omega arith)
signed_none bits (c ∷ ds) e = rw e

-- a number without sign of a type that `parse` reads as `bits` bits
pub numbered : {E : Type 0} {Gives : Result ℕ E → Type 0} (bits : ℕ) (ds : List ℕ) (o : Option ℕ) → ((r : Result ℕ E) → Gives r → ParsesUnsigned bits 10 ds r) → (get_or ds 0 0 ≡ 43 → o ≡ None)
    → ((get_or ds 0 0 ≡ 43 → ⊥) → (r : Result ℕ E) × Gives r × (o ≡ result_ok r)) → o ≡ number_of bits ds
numbered bits ds o reads signed plain = by (eqb (get_or ds 0 0) 43) refl
  where
    by : (t : Bool) → eqb (get_or ds 0 0) 43 ≡ t → o ≡ number_of bits ds
    by true e = let h = eqb-true (get_or ds 0 0) 43 e in signed h ∙ signed_none bits ds h
    by false e = let h = eqb-false (get_or ds 0 0) 43 e in let p = plain h in p.2 ∙ parsed_number bits ds p.0 (reads p.0 p.1) h

pub blank_all : (line : List ℕ) → list_all (λ c. eqb c 32) line ≡ all_blank line
blank_all [] = refl
blank_all (c ∷ line) = ap (λ t. eqb c 32 && t) (blank_all line)

-- a line that begins with a word, and goes on with a number
pub step_line : (line digits : List ℕ) (o : Option ℕ) → line ≡ codes "step " ++ digits → o ≡ number_of 64 digits → step_with o ≡ call_of line
step_line line digits o e n = ap step_with n ∙ sym (ap call_of e)

pub touch_line : (line digits : List ℕ) (o : Option ℕ) → line ≡ codes "touch " ++ digits → o ≡ number_of 32 digits → touch_with o ≡ call_of line
touch_line line digits o e n = ap touch_with n ∙ sym (ap call_of e)
