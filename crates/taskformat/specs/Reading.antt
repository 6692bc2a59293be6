-- The meaning of a task file: every list of bytes is a task, or is refused.
use Rattle.std.specs.Prelude.{ℕ, zero, suc, ◌+◌, ◌*◌, Bool, true, false, cond, ◌&&◌, List, [], ◌∷◌, length, drop, Some, None, Option, ◌==◌, nat_le, slice_index}
use Rattle.fields.specs.Layout.{FieldContents, header, point, evicting, end, field, fault, field_at, body_length}
use Rattle.task.specs.Contents.{PointContents, TaskContents, point_with, task_with, add_point, add_evicting}
use Rattle.task.specs.Legal.{legal_parameters, legal_point, first_open}
use Rattle.task.specs.Adding.{Verdict, fits, unfit, too_many, point_verdict, evicting_verdict}
use Rattle.taskformat.specs.Writing.{point_place}

pub data Layer : Type 0 where
  fields_layer : Layer
  task_layer : Layer

-- a task, or a refusal: the layer, the number of the cause, and the place, the byte where the field at fault begins
pub data Outcome : Type 0 where
  accepted : TaskContents → Outcome
  refused : Layer → ℕ → ℕ → Outcome

-- the number in the four bytes from k on, high byte first
abbrev pub number_at : List ℕ → ℕ → ℕ
number_at body k = slice_index body k * 16777216 + slice_index body (k + 1) * 65536 + slice_index body (k + 2) * 256 + slice_index body (k + 3)

-- sets, ways, four bytes of reload time
abbrev pub header_of : List ℕ → TaskContents
header_of body = task_with (slice_index body 0) (slice_index body 1) (number_at body 2) [] []

abbrev pub if_legal : PointContents → Option PointContents
if_legal p = cond (legal_point p) (Some p) None

-- a mark, after 1 four bytes of block, and a byte for each successor; none where a value is out of range, the
-- successors do not rise, or the length is unfit for the mark
abbrev pub point_of : List ℕ → Option PointContents
point_of body =
    cond (slice_index body 0 == 0) (if_legal (point_with None (drop 1 body)))
    (cond (slice_index body 0 == 1 && nat_le 5 (length body)) (if_legal (point_with (Some (number_at body 1)) (drop 5 body))) None)

-- what one field after the header makes of the task so far
pub data Step : Type 0 where
  taken : TaskContents → Step
  ended : Step
  wrong : ℕ → Step

abbrev pub taken_if : Verdict → TaskContents → Step
taken_if fits t = taken t
taken_if unfit t = wrong 5
taken_if too_many t = wrong 6

abbrev pub point_step : TaskContents → Option PointContents → Step
point_step t None = wrong 5
point_step t (Some p) = taken_if (point_verdict t p) (add_point t p)

abbrev pub is_empty : {X : Type 0} → List X → Bool
is_empty [] = true
is_empty (x ∷ xs) = false

-- the tests of a field after the header: order (3), values (5), number (6). Points come before evicting blocks, and
-- there is at least one
abbrev pub step : TaskContents → FieldContents → Step
step t (header body) = wrong 3
step t (point body) = cond (is_empty t.evicting) (point_step t (point_of body)) (wrong 3)
step t (evicting body) = cond (is_empty t.points) (wrong 3) (taken_if (evicting_verdict t (number_at body 0)) (add_evicting t (number_at body 0)))
step t end = cond (is_empty t.points) (wrong 3) ended

abbrev pub closed_at : TaskContents → Option ℕ → Outcome
closed_at t None = accepted t
closed_at t (Some k) = refused task_layer 7 (point_place t.points k)

-- after the end field, which is followed by `place`: bytes after it (8), then the lowest point with a successor that the file lacks (7)
abbrev pub closed : ℕ → List ℕ → TaskContents → Outcome
closed place after t = cond (is_empty after) (closed_at t (first_open t.points)) (refused task_layer 8 place)

-- at most n fields from a place on, onto the task so far. A field has three bytes or more, so that the number of bytes is enough
abbrev pub reading : ℕ → ℕ → List ℕ → TaskContents → Outcome
reading zero place bytes t = refused fields_layer 1 place
reading (suc n) place bytes t =
    elim (field_at place bytes) [
      | fault number at ↦ refused fields_layer number at
      | field f at after ↦ elim (step t f) [
        | taken u ↦ reading n (place + (3 + body_length f)) after u
        | ended ↦ closed (place + 3) after t
        | wrong number ↦ refused task_layer number place
      ]
    ]

-- the header begins the file
abbrev pub begun : FieldContents → List ℕ → Outcome
begun (header body) after =
    cond (legal_parameters (slice_index body 0) (slice_index body 1) (number_at body 2)) (reading (length after) 9 after (header_of body)) (refused task_layer 5 0)
begun (point body) after = refused task_layer 3 0
begun (evicting body) after = refused task_layer 3 0
begun end after = refused task_layer 3 0

abbrev pub meaning : List ℕ → Outcome
meaning file = elim (field_at 0 file) [ fault number at ↦ refused fields_layer number at | field f at after ↦ begun f after ]
