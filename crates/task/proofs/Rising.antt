-- Rising lists, one step on. Assumes nothing.
use Rattle.std.proofs.Common.{◌≡◌, ℕ, Some, None, Option, suc, ◌-◌, ◌<◌, Bool, true, false, ◌&&◌, ltb, List, [], ◌∷◌, ◌++◌, length, get_or, sym, refl, ap, ◌∙◌, arith}
use Rattle.std.proofs.lemmas.Bool.{and_parts}
use Rattle.std.proofs.lemmas.Option.{slice_get_within, get_or_from_slice_get, slice_get-get_or, none-some}
use Rattle.std.specs.Prelude.{IsTrue}
use Rattle.std.specs.List.{slice_get}
use Rattle.std.specs.Option.{MatchOption, option_copied}
use denote.Ref.{Bor}
use Rattle.task.specs.Lists.{rising}

and_true : (v : Bool) → (v && true) ≡ v
and_true true = refl
and_true false = refl

-- a rising list goes on to rise with b at its end where its last number is below b
pub rises_past : (xs : List ℕ) (b last : ℕ) → 0 < length xs → last ≡ get_or xs (length xs - 1) last → rising xs ≡ true → ltb last b ≡ rising (xs ++ (b ∷ []))
rises_past [] b last h e r = absurd (omega arith)
rises_past (x ∷ []) b last h e r = ap (λ n. ltb n b) e ∙ sym (and_true (ltb x b))
rises_past (x ∷ y ∷ ys) b last h e r =
    let p = and_parts (ltb x y) (rising (y ∷ ys)) r in
    let n : length (x ∷ y ∷ ys) - 1 ≡ suc (length (y ∷ ys) - 1) = omega arith in
    rises_past (y ∷ ys) b last (omega arith) (e ∙ ap (λ k. get_or (x ∷ y ∷ ys) k last) n) p.1
    ∙ sym (ap (λ (v : Bool). v && rising ((y ∷ ys) ++ (b ∷ []))) p.0)

-- what `is_none_or` answers of the last number
pub rises_past_last : (xs : List ℕ) (b : ℕ) (r : Bool) (o : Option (Bor ℕ)) → option_copied o ≡ slice_get xs (length xs - 1) → MatchOption o (IsTrue r) (λ x. r ≡ ltb x.now b) → rising xs ≡ true → r ≡ rising (xs ++ (b ∷ []))
rises_past_last xs b r (Some x) e h up =
    let within = slice_get_within xs (length xs - 1) x.now (sym e) in
    let last = get_or_from_slice_get xs (length xs - 1) x.now x.now (sym e) in
    h ∙ rises_past xs b x.now (omega arith) (sym last) up
rises_past_last [] b r None e h up = h
rises_past_last (x ∷ xs) b r None e h up = absurd (none-some _ (e ∙ slice_get-get_or (x ∷ xs) (length (x ∷ xs) - 1) x (omega arith)))
