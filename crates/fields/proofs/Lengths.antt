-- How much of the bytes a field takes. Assumes nothing.
use Rattle.std.proofs.Common.{◌≡◌, ℕ, ◌+◌, ◌*◌, Bool, true, false, cond, leb, List, [], ◌∷◌, length, take, drop, Some, None, Option, sym, refl, ap, ◌∙◌, arith, length-drop, length-take}
use Rattle.std.proofs.lemmas.List.{length-take-le}
use Rattle.std.proofs.lemmas.Bool.{leb-true, eqb-true}
use Rattle.std.proofs.lemmas.Bool.Decides.{nat_tests}
use Rattle.fields.specs.declared.tag.Tag.{Tag}
use Rattle.fields.specs.declared.tag.Tag.TheVariants as tags
use Rattle.fields.specs.Layout.{FieldContents, field, fault, tag_of, allows, contents_of, judged, field_at, body_length, sized}

contents_length : (t : Tag) (n : ℕ) (xs : List ℕ) → allows t n ≡ true → length xs ≡ n → body_length (contents_of t xs) ≡ n
contents_length tags.Header n xs h e = e
contents_length tags.Point n xs h e = e
contents_length tags.Evicting n xs h e = e
contents_length tags.End n xs h e = sym (eqb-true n 0 h)

chosen : (place n : ℕ) (t : Tag) (rest : List ℕ) (part : FieldContents) (at : ℕ) (after : List ℕ) (b c : Bool) → allows t n ≡ b → leb n (length rest) ≡ c
    → cond b (cond c (field (contents_of t (take n rest)) place (drop n rest)) (fault 1 place)) (fault 4 place) ≡ field part at after
    → (at ≡ place) × (body_length part + length after ≡ length rest)
chosen place n t rest part at after true true h k e =
    let le = leb-true n (length rest) k in
    let p : contents_of t (take n rest) ≡ part = cc in
    let q : drop n rest ≡ after = cc in
    let l : length (take n rest) ≡ n = length-take n rest ∙ omega arith in
    let m = contents_length t n (take n rest) h l in
    let d = length-drop n rest in
    (cc, omega (arith, ap body_length p, ap length q))
chosen place n t rest part at after true false h k e = absurd (let z : ◌≡◌ {A = ℕ} 0 1 = cc in omega arith)
chosen place n t rest part at after false c h k e = absurd (let z : ◌≡◌ {A = ℕ} 0 1 = cc in omega arith)

judged_lengths : (place n : ℕ) (o : Option Tag) (rest : List ℕ) (part : FieldContents) (at : ℕ) (after : List ℕ) → judged place o n rest ≡ field part at after
    → (at ≡ place) × (body_length part + length after ≡ length rest)
judged_lengths place n None rest part at after e = absurd (let z : ◌≡◌ {A = ℕ} 0 1 = cc in omega arith)
judged_lengths place n (Some t) rest part at after e = chosen place n t rest part at after (allows t n) (leb n (length rest)) refl refl e

pub field_lengths : (place : ℕ) (bs : List ℕ) (part : FieldContents) (at : ℕ) (after : List ℕ) → field_at place bs ≡ field part at after
    → (at ≡ place) × (3 + body_length part + length after ≡ length bs)
field_lengths place [] part at after e = absurd (let z : ◌≡◌ {A = ℕ} 0 1 = cc in omega arith)
field_lengths place (t ∷ []) part at after e = absurd (let z : ◌≡◌ {A = ℕ} 0 1 = cc in omega arith)
field_lengths place (t ∷ hi ∷ []) part at after e = absurd (let z : ◌≡◌ {A = ℕ} 0 1 = cc in omega arith)
field_lengths place (t ∷ hi ∷ lo ∷ rest) part at after e =
    let r = judged_lengths place (hi * 256 + lo) (tag_of t) rest part at after e in
    (r.0, let m = r.1 in omega arith)

contents_sized : (t : Tag) (body : List ℕ) → allows t (length body) ≡ true → sized (contents_of t body) ≡ true
contents_sized tags.Header body ok = ok
contents_sized tags.Point body ok = ok
contents_sized tags.Evicting body ok = ok
contents_sized tags.End body ok = refl

judged_sized : (place : ℕ) (o : Option Tag) (n : ℕ) (rest : List ℕ) (f : FieldContents) (at : ℕ) (after : List ℕ) → judged place o n rest ≡ field f at after → sized f ≡ true
judged_sized place None n rest f at after e = absurd (let z : ◌≡◌ {A = ℕ} 0 1 = cc in omega arith)
judged_sized place (Some t) n rest f at after e = let l = length-take-le n rest in let ok = contents_sized t (take n rest) in grind (arith, nat_tests)

-- a field that was found has a length that its tag allows
pub field_sized : (place : ℕ) (bs : List ℕ) (f : FieldContents) (at : ℕ) (after : List ℕ) → field_at place bs ≡ field f at after → sized f ≡ true
field_sized place [] f at after e = absurd (let z : ◌≡◌ {A = ℕ} 0 1 = cc in omega arith)
field_sized place (t ∷ []) f at after e = absurd (let z : ◌≡◌ {A = ℕ} 0 1 = cc in omega arith)
field_sized place (t ∷ hi ∷ []) f at after e = absurd (let z : ◌≡◌ {A = ℕ} 0 1 = cc in omega arith)
field_sized place (t ∷ hi ∷ lo ∷ rest) f at after e = judged_sized place (tag_of t) (hi * 256 + lo) rest f at after e
