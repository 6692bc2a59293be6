-- The bytes of a task file.
use Rattle.std.specs.Prelude.{ℕ, ◌+◌, ◌/◌, ◌%◌, List, [], ◌∷◌, ◌++◌, map, length, take, Some, None, Option}
use Rattle.std.specs.List.{flat_map}
use Rattle.fields.specs.Layout.{FieldContents, header, point, evicting, end, field_bytes}
use Rattle.task.specs.Contents.{PointContents, TaskContents}

-- a number of 32 bits, high byte first
abbrev pub four_bytes : ℕ → List ℕ
four_bytes n = n / 16777216 % 256 ∷ n / 65536 % 256 ∷ n / 256 % 256 ∷ n % 256 ∷ []

-- a mark: 0, no access; 1, and the block follows
abbrev pub access_bytes : Option ℕ → List ℕ
access_bytes None = 0 ∷ []
access_bytes (Some b) = 1 ∷ four_bytes b

abbrev pub header_field : TaskContents → FieldContents
header_field t = header (t.sets ∷ t.ways ∷ four_bytes t.reload)

abbrev pub point_field : PointContents → FieldContents
point_field p = point (access_bytes p.access ++ p.successors)

abbrev pub evicting_field : ℕ → FieldContents
evicting_field b = evicting (four_bytes b)

abbrev pub last_fields : List ℕ → List FieldContents
last_fields blocks = map evicting_field blocks ++ (end ∷ [])

abbrev pub fields_after_header : TaskContents → List FieldContents
fields_after_header t = map point_field t.points ++ last_fields t.evicting

-- the header, the points, the evicting blocks, the end
abbrev pub fields_of : TaskContents → List FieldContents
fields_of t = header_field t ∷ fields_after_header t

abbrev pub task_bytes : TaskContents → List ℕ
task_bytes t = flat_map field_bytes (fields_of t)

-- where the field of point k begins: after the nine bytes of the header and the fields of the points before it
abbrev pub point_place : List PointContents → ℕ → ℕ
point_place ps k = 9 + length (flat_map field_bytes (map point_field (take k ps)))
