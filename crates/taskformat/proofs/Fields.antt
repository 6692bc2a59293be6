-- The bytes of a field begin with that field. Assumes nothing.
use Rattle.std.proofs.Common.{◌≡◌, ℕ, true, List, [], ◌++◌, length, Some, sym, refl, ap, arith, length-append}
use Rattle.std.proofs.lemmas.List.{take_at, drop_at}
use Rattle.fields.specs.declared.tag.Tag.{Tag}
use Rattle.fields.specs.declared.tag.Tag.TheVariants as tags
use Rattle.fields.specs.Layout.{FieldContents, header, point, evicting, end, field, tag_of, allows, contents_of, field_at, with_head, field_bytes, sized}
use Rattle.fields.proofs.Taking.{taken}

headed : (b place : ℕ) (t : Tag) (body after : List ℕ) → tag_of b ≡ Some t → allows t (length body) ≡ true
    → field_at place (with_head b body ++ after) ≡ field (contents_of t body) place after
headed b place t body after tag ok =
    let l = length-append body after in
    sym (taken place (length body) (with_head b body ++ after) after t (contents_of t body) (omega arith) tag (omega arith) ok (omega arith)
    (ap (contents_of t) (sym (take_at body after (length body) refl))) (sym (drop_at body after (length body) refl)))

pub field_first : (f : FieldContents) (place : ℕ) (after : List ℕ) → sized f ≡ true → field_at place (field_bytes f ++ after) ≡ field f place after
field_first (header body) place after ok = headed 1 place tags.Header body after refl ok
field_first (point body) place after ok = headed 2 place tags.Point body after refl ok
field_first (evicting body) place after ok = headed 3 place tags.Evicting body after refl ok
field_first end place after ok = headed 4 place tags.End [] after refl ok
