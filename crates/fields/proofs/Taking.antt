-- What a field is, from what was tested of it. Assumes nothing.
use Rattle.std.proofs.Common.{◌≡◌, ℕ, ◌+◌, ◌*◌, ◌≤◌, true, List, [], ◌∷◌, length, get_or, take, drop, Some, sym, refl, ◌∙◌, arith}
use Rattle.std.proofs.lemmas.Bool.{le-leb}
use Rattle.fields.specs.declared.tag.Tag.{Tag}
use Rattle.fields.specs.Layout.{FieldContents, field, tag_of, allows, contents_of, judged, field_at}

pub opened : (place : ℕ) (bs : List ℕ) → 3 ≤ length bs → field_at place bs ≡ judged place (tag_of (get_or bs 0 0)) (get_or bs 1 0 * 256 + get_or bs 2 0) (drop 3 bs)
opened place [] h = absurd (omega arith)
opened place (t ∷ []) h = absurd (omega arith)
opened place (t ∷ hi ∷ []) h = absurd (omega arith)
opened place (t ∷ hi ∷ lo ∷ rest) h = refl

pub taken : (place n : ℕ) (bs after : List ℕ) (t : Tag) (f : FieldContents) → 3 ≤ length bs → tag_of (get_or bs 0 0) ≡ Some t → n ≡ get_or bs 1 0 * 256 + get_or bs 2 0
    → allows t n ≡ true → n ≤ length (drop 3 bs) → f ≡ contents_of t (take n (drop 3 bs)) → after ≡ drop n (drop 3 bs) → field f place after ≡ field_at place bs
taken place n bs after t f h tag len ok fit e a =
    let one : judged place (Some t) n (drop 3 bs) ≡ field f place after = rw (ok, le-leb n (length (drop 3 bs)) fit) cc in
    let two : judged place (tag_of (get_or bs 0 0)) (get_or bs 1 0 * 256 + get_or bs 2 0) (drop 3 bs) ≡ judged place (Some t) n (drop 3 bs) = cc in
    sym (opened place bs h ∙ two ∙ one)
