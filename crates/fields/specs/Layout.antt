-- The layout of a field: a byte of tag, two bytes of length, high byte first, and the body.
use Rattle.std.specs.Prelude.{ℕ, ◌+◌, ◌*◌, ◌/◌, ◌%◌, Bool, true, cond, ◌&&◌, List, [], ◌∷◌, length, take, drop, Some, None, Option, ◌==◌, nat_le}
use Rattle.fields.specs.declared.tag.Tag.{Tag}
use Rattle.fields.specs.declared.tag.Tag.TheVariants as tags

-- the four kinds of field, each with its body
pub data FieldContents : Type 0 where
  header : List ℕ → FieldContents
  point : List ℕ → FieldContents
  evicting : List ℕ → FieldContents
  end : FieldContents

-- what the bytes from a place on begin with: a field, its place and the bytes after it, or a fault's number and place
pub data FieldAt : Type 0 where
  field : FieldContents → ℕ → List ℕ → FieldAt
  fault : ℕ → ℕ → FieldAt

abbrev pub tag_of : ℕ → Option Tag
tag_of b =
    cond (b == 1) (Some tags.Header) (cond (b == 2) (Some tags.Point) (cond (b == 3) (Some tags.Evicting) (cond (b == 4) (Some tags.End) None)))

-- the lengths that a tag allows
abbrev pub allows : Tag → ℕ → Bool
allows tags.Header n = n == 6
allows tags.Point n = nat_le 1 n && nat_le n 9
allows tags.Evicting n = n == 4
allows tags.End n = n == 0

abbrev pub contents_of : Tag → List ℕ → FieldContents
contents_of tags.Header body = header body
contents_of tags.Point body = point body
contents_of tags.Evicting body = evicting body
contents_of tags.End body = end

-- after the head, in the order of the tests: tag (2), length (4), body (1)
abbrev pub judged : ℕ → Option Tag → ℕ → List ℕ → FieldAt
judged place None n rest = fault 2 place
judged place (Some t) n rest = cond (allows t n) (cond (nat_le n (length rest)) (field (contents_of t (take n rest)) place (drop n rest)) (fault 1 place)) (fault 4 place)

-- the head is tested first (1)
abbrev pub field_at : ℕ → List ℕ → FieldAt
field_at place [] = fault 1 place
field_at place (t ∷ []) = fault 1 place
field_at place (t ∷ hi ∷ []) = fault 1 place
field_at place (t ∷ hi ∷ lo ∷ rest) = judged place (tag_of t) (hi * 256 + lo) rest

-- the bytes of a field
abbrev pub with_head : ℕ → List ℕ → List ℕ
with_head t body = t ∷ length body / 256 ∷ length body % 256 ∷ body

abbrev pub field_bytes : FieldContents → List ℕ
field_bytes (header body) = with_head 1 body
field_bytes (point body) = with_head 2 body
field_bytes (evicting body) = with_head 3 body
field_bytes end = with_head 4 []

abbrev pub body_length : FieldContents → ℕ
body_length (header body) = length body
body_length (point body) = length body
body_length (evicting body) = length body
body_length end = 0

-- the body is as long as the tag allows
abbrev pub sized : FieldContents → Bool
sized (header body) = allows tags.Header (length body)
sized (point body) = allows tags.Point (length body)
sized (evicting body) = allows tags.Evicting (length body)
sized end = true
