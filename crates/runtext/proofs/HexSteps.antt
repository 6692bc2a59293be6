-- The bytes of a text in hexadecimal, from what is left of the text and the first digit of a pair that is half read.
use Rattle.std.proofs.Common.{◌≡◌, ℕ, ◌+◌, ◌*◌, ◌<◌, ◌≤◌, true, false, eqb, List, [], ◌∷◌, ◌++◌, length, get_or, drop, Some, None, Option, sym, refl, ap, ◌∙◌, append_assoc, arith, eq-eqb, ne_eqb}
use Rattle.std.proofs.lemmas.Bool.Decides.{nat_tests}
use Rattle.std.specs.Char.{digit_value}
use Rattle.std.specs.Option.{SomeIff}
use Rattle.std.proofs.lemmas.List.{append-nil, at_drop_all, at_drop_more}
use Rattle.runtext.specs.Hex.{before, digit_of, digits_of, hex_bytes, paired_in}

abbrev pub held_before : Option ℕ → Option (List ℕ) → Option (List ℕ)
held_before None ds = ds
held_before (Some h) ds = before (Some h) ds

abbrev pub bytes_left : Option ℕ → List ℕ → Option (List ℕ)
bytes_left held text = paired_in (held_before held (digits_of text))

-- after the bytes so far
abbrev pub after : List ℕ → Option (List ℕ) → Option (List ℕ)
after bs None = None
after bs (Some cs) = Some (bs ++ cs)

abbrev pub Small : Option ℕ → Type 0
Small None = Unit {0}
Small (Some h) = h < 16

-- what `to_digit` answers on a byte
pub digit_read : (c : ℕ) (r : Option ℕ) → SomeIff r (digit_value c < 16) (digit_value c) → r ≡ digit_of c
digit_read c None h = grind (arith, nat_tests)
digit_read c (Some d) h = grind (arith, nat_tests)

at_blank : (held : Option ℕ) (c : ℕ) (text : List ℕ) → eqb c 32 ≡ true → bytes_left held (c ∷ text) ≡ bytes_left held text
at_blank held c text e = rw e

at_other : (held : Option ℕ) (c : ℕ) (text : List ℕ) → eqb c 32 ≡ false → digit_of c ≡ None → bytes_left held (c ∷ text) ≡ None
at_other None c text e is = rw (e, is)
at_other (Some h) c text e is = rw (e, is)

at_first : (c d : ℕ) (text : List ℕ) → eqb c 32 ≡ false → digit_of c ≡ Some d → bytes_left None (c ∷ text) ≡ bytes_left (Some d) text
at_first c d text e is = rw (e, is)

pair_more : (h d : ℕ) (ds : Option (List ℕ)) → paired_in (before (Some h) (before (Some d) ds)) ≡ before (Some (16 * h + d)) (paired_in ds)
pair_more h d None = refl
pair_more h d (Some ds) = refl

at_second : (h c d : ℕ) (text : List ℕ) → eqb c 32 ≡ false → digit_of c ≡ Some d → bytes_left (Some h) (c ∷ text) ≡ before (Some (16 * h + d)) (bytes_left None text)
at_second h c d text e is = rw (e, is) (pair_more h d (digits_of text))

after_more : (bs : List ℕ) (b : ℕ) (cs : Option (List ℕ)) → after bs (before (Some b) cs) ≡ after (bs ++ (b ∷ [])) cs
after_more bs b None = refl
after_more bs b (Some cs) = ap Some (sym (append_assoc bs (b ∷ []) cs))

pub digit_small : (c d : ℕ) → digit_of c ≡ Some d → d < 16
digit_small c d is = grind (arith, nat_tests)

-- the bytes so far and those of the text from i on are those of the text
abbrev pub Reads : List ℕ → List ℕ → Option ℕ → ℕ → Type 0
Reads text bs held i = (after bs (bytes_left held (drop i text)) ≡ hex_bytes text) × Small held

module _ (text : List ℕ) (bs : List ℕ) (i : ℕ) (held : Option ℕ) (so_far : Reads text bs held i) where
  pub blank_more : i < length text → get_or text i 0 ≡ 32 → Reads text bs held (i + 1)
  blank_more lt is =
      let c = get_or text i 0 in
      let step : bytes_left held (drop i text) ≡ bytes_left held (drop (i + 1) text) =
      at_drop_more (bytes_left held) text i 0 lt ∙ at_blank held c (drop (i + 1) text) (eq-eqb c 32 is) in
      (ap (after bs) (sym step) ∙ so_far.0, so_far.1)

  pub other_ends : i < length text → (get_or text i 0 ≡ 32 → ⊥) → digit_of (get_or text i 0) ≡ None → None ≡ hex_bytes text
  other_ends lt not is =
      let c = get_or text i 0 in
      let step : bytes_left held (drop i text) ≡ None =
      at_drop_more (bytes_left held) text i 0 lt ∙ at_other held c (drop (i + 1) text) (ne_eqb c 32 not) is in
      ap (after bs) (sym step) ∙ so_far.0

  pub first_more : (d : ℕ) → i < length text → (get_or text i 0 ≡ 32 → ⊥) → digit_of (get_or text i 0) ≡ Some d → held ≡ None → Reads text bs (Some d) (i + 1)
  first_more d lt not is none =
      let c = get_or text i 0 in
      let step : bytes_left None (drop i text) ≡ bytes_left (Some d) (drop (i + 1) text) =
      at_drop_more (bytes_left None) text i 0 lt ∙ at_first c d (drop (i + 1) text) (ne_eqb c 32 not) is in
      (ap (after bs) (sym step) ∙ (rw none at so_far).0, digit_small c d is)

  pub second_more : (h d : ℕ) → i < length text → (get_or text i 0 ≡ 32 → ⊥) → digit_of (get_or text i 0) ≡ Some d → held ≡ Some h → Reads text (bs ++ ((16 * h + d) ∷ [])) None (i + 1)
  second_more h d lt not is some =
      let c = get_or text i 0 in
      let rest = drop (i + 1) text in
      let step : bytes_left (Some h) (drop i text) ≡ before (Some (16 * h + d)) (bytes_left None rest) =
      at_drop_more (bytes_left (Some h)) text i 0 lt ∙ at_second h c d rest (ne_eqb c 32 not) is in
      (sym (after_more bs (16 * h + d) (bytes_left None rest)) ∙ ap (after bs) (sym step) ∙ (rw some at so_far).0, tt)

  pub held_small : (h : ℕ) → held ≡ Some h → h < 16
  held_small h some = (rw some at so_far).1

  pub whole_ends : length text ≤ i → held ≡ None → Some bs ≡ hex_bytes text
  whole_ends le none =
      ap Some (sym (append-nil bs)) ∙ ap (after bs) (sym (at_drop_all (bytes_left None) text i le)) ∙ (rw none at so_far).0

  pub half_ends : (h : ℕ) → length text ≤ i → held ≡ Some h → None ≡ hex_bytes text
  half_ends h le some = ap (after bs) (sym (at_drop_all (bytes_left (Some h)) text i le)) ∙ (rw some at so_far).0
