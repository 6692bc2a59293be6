-- What an answer of the fields layer says.
use Rattle.std.specs.Prelude.{ℕ, Ok, Err, Result}
use Rattle.fields.specs.declared.Field.{Field}
use Rattle.fields.specs.declared.Field.TheVariants as fields
use Rattle.fields.specs.declared.Taken.{Taken}
use Rattle.fields.specs.declared.FieldFault.{FieldFault}
use Rattle.fields.specs.declared.FieldCause.{FieldCause}
use Rattle.fields.specs.declared.FieldCause.TheVariants as causes
use Rattle.fields.specs.Layout.{FieldContents, header, point, evicting, end, FieldAt, field, fault}

abbrev pub field_contents : Field → FieldContents
field_contents (fields.Header body) = header body.now
field_contents (fields.Point body) = point body.now
field_contents (fields.Evicting body) = evicting body.now
field_contents fields.End = end

-- the input ends in the field; the tag is not 1 to 4; the length is wrong for the tag
abbrev pub number : FieldCause → ℕ
number causes.Cut = 1
number causes.Tag = 2
number causes.Length = 4

abbrev pub said : Result Taken FieldFault → FieldAt
said (Ok t) = field (field_contents t.field) t.place t.after.now
said (Err f) = fault (number f.cause) f.place
