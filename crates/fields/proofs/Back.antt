-- The bytes that a field was taken from are the field's bytes. Assumes nothing.
use Rattle.std.proofs.Common.{◌≡◌, ℕ, ◌+◌, ◌*◌, ◌/◌, ◌%◌, ◌<◌, Bool, true, false, cond, leb, List, [], ◌∷◌, ◌++◌, length, take, drop, Some, None, Option, sym, refl, ap, ◌∙◌, arith, take-append-drop, length-take}
use Rattle.std.specs.List.{AllByRecursion}
use Rattle.std.proofs.lemmas.Bool.{leb-true, eqb-true}
use Rattle.std.proofs.lemmas.Bool.Decides.{nat_tests}
use Rattle.fields.specs.declared.tag.Tag.{Tag}
use Rattle.fields.specs.declared.tag.Tag.TheVariants as tags
use Rattle.fields.specs.Layout.{FieldContents, field, fault, tag_of, allows, contents_of, judged, field_at, with_head, field_bytes}

abbrev code : Tag → ℕ
code tags.Header = 1
code tags.Point = 2
code tags.Evicting = 3
code tags.End = 4

tag_code : (b : ℕ) (t : Tag) → tag_of b ≡ Some t → b ≡ code t
tag_code b tags.Header e = grind (arith, nat_tests)
tag_code b tags.Point e = grind (arith, nat_tests)
tag_code b tags.Evicting e = grind (arith, nat_tests)
tag_code b tags.End e = grind (arith, nat_tests)

contents_back : (t : Tag) (n : ℕ) (xs : List ℕ) → allows t n ≡ true → length xs ≡ n → field_bytes (contents_of t xs) ≡ with_head (code t) xs
contents_back tags.Header n xs h e = refl
contents_back tags.Point n xs h e = refl
contents_back tags.Evicting n xs h e = refl
contents_back tags.End n [] h e = refl
contents_back tags.End n (x ∷ xs) h e = absurd (let z = eqb-true n 0 h in omega arith)

chosen : (place hi lo b : ℕ) (t : Tag) (rest : List ℕ) (part : FieldContents) (at : ℕ) (after : List ℕ) → hi < 256 → lo < 256 → b ≡ code t → (v w : Bool) → allows t (hi * 256 + lo) ≡ v → leb (hi * 256 + lo) (length rest) ≡ w
    → cond v (cond w (field (contents_of t (take (hi * 256 + lo) rest)) place (drop (hi * 256 + lo) rest)) (fault 1 place)) (fault 4 place) ≡ field part at after
    → b ∷ hi ∷ lo ∷ rest ≡ field_bytes part ++ after
chosen place hi lo b t rest part at after x y c true true h k e =
    let n = hi * 256 + lo in
    let le = leb-true n (length rest) k in
    let p : contents_of t (take n rest) ≡ part = cc in
    let q : drop n rest ≡ after = cc in
    let l : length (take n rest) ≡ n = length-take n rest ∙ omega arith in
    let m : field_bytes part ≡ with_head (code t) (take n rest) = ap field_bytes (sym p) ∙ contents_back t n (take n rest) h l in
    let u : hi ≡ length (take n rest) / 256 = omega arith in
    let v : lo ≡ length (take n rest) % 256 = omega arith in
    let w : take n rest ++ drop n rest ≡ rest = take-append-drop n rest in
    sym (ap (λ (zs : List ℕ). zs ++ after) m ∙ ap (λ (zs : List ℕ). with_head (code t) (take n rest) ++ zs) (sym q) ∙ cc)
chosen place hi lo b t rest part at after x y c true false h k e = absurd (let z : ◌≡◌ {A = ℕ} 0 1 = cc in omega arith)
chosen place hi lo b t rest part at after x y c false w h k e = absurd (let z : ◌≡◌ {A = ℕ} 0 1 = cc in omega arith)

judged_back : (place hi lo b : ℕ) (o : Option Tag) (rest : List ℕ) (part : FieldContents) (at : ℕ) (after : List ℕ) → hi < 256 → lo < 256 → tag_of b ≡ o → judged place o (hi * 256 + lo) rest ≡ field part at after
    → b ∷ hi ∷ lo ∷ rest ≡ field_bytes part ++ after
judged_back place hi lo b None rest part at after x y c e = absurd (let z : ◌≡◌ {A = ℕ} 0 1 = cc in omega arith)
judged_back place hi lo b (Some t) rest part at after x y c e = chosen place hi lo b t rest part at after x y (tag_code b t c) (allows t (hi * 256 + lo)) (leb (hi * 256 + lo) (length rest)) refl refl e

pub field_back : (place : ℕ) (bs : List ℕ) (part : FieldContents) (at : ℕ) (after : List ℕ) → AllByRecursion (λ b. b < 256) bs → field_at place bs ≡ field part at after → bs ≡ field_bytes part ++ after
field_back place [] part at after h e = absurd (let z : ◌≡◌ {A = ℕ} 0 1 = cc in omega arith)
field_back place (t ∷ []) part at after h e = absurd (let z : ◌≡◌ {A = ℕ} 0 1 = cc in omega arith)
field_back place (t ∷ hi ∷ []) part at after h e = absurd (let z : ◌≡◌ {A = ℕ} 0 1 = cc in omega arith)
field_back place (t ∷ hi ∷ lo ∷ rest) part at after h e = judged_back place hi lo t (tag_of t) rest part at after h.1.0 h.1.1.0 refl e
