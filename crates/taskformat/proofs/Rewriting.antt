-- Writing what was read keeps the bytes.
use Rattle.std.proofs.Common.{◌≡◌, ℕ, zero, suc, ◌+◌, true, List, [], ◌∷◌, ◌++◌, map, length, get_or, Some, None, Option, sym, refl, ap, subst, append_assoc, append-nil, arith}
use Rattle.std.specs.List.{flat_map}
use Rattle.std.proofs.lemmas.List.{flat_map_more}
use Rattle.std.proofs.lemmas.Bool.{eqb-true, cond_both}
use Rattle.fields.specs.Layout.{FieldContents, header, point, evicting, end, FieldAt, field, fault, field_at, field_bytes, body_length, sized}
use Rattle.fields.proofs.Back.{field_back}
use Rattle.fields.proofs.Lengths.{field_sized}
use Rattle.task.specs.Contents.{TaskContents}
use Rattle.task.specs.Legal.{legal_parameters, first_open}
use Rattle.taskformat.specs.Writing.{header_field, point_field, evicting_field, fields_of, task_bytes}
use Rattle.taskformat.specs.Reading.{Outcome, accepted, refused, task_layer, number_at, header_of, Step, taken, ended, wrong, step, closed_at, closed, reading, begun}
use Rattle.taskformat.specs.Inverse.{RewritingKeepsTheBytes}
use Rattle.taskformat.proofs.Numbers.{Bytes, four_back}
use Rattle.taskformat.proofs.Steps.{after_step, after_field, after_first}
use Rattle.taskformat.proofs.Gains.{draft_fields, Gains, step_gains}

bytes_parts : (xs ys : List ℕ) → Bytes (xs ++ ys) → Bytes xs × Bytes ys
bytes_parts [] ys h = (tt, h)
bytes_parts (x ∷ xs) ys h = let i = bytes_parts xs ys h.1 in ((h.0, i.0), i.1)

-- an accepted task is written as the bytes
abbrev Rewrites : List ℕ → Outcome → Type 0
Rewrites bytes (accepted t) = task_bytes t ≡ bytes
Rewrites bytes (refused layer number place) = Unit {0}

closed_at_rewrites : (t : TaskContents) (o : Option ℕ) → Rewrites (task_bytes t ++ []) (closed_at t o)
closed_at_rewrites t None = sym (append-nil (task_bytes t))
closed_at_rewrites t (Some k) = tt

closed_rewrites : (t : TaskContents) (place : ℕ) (after : List ℕ) → Rewrites (task_bytes t ++ after) (closed place after t)
closed_rewrites t place [] = closed_at_rewrites t (first_open t.points)
closed_rewrites t place (b ∷ after) = tt

one_more : (fs : List FieldContents) (f : FieldContents) (after : List ℕ) → flat_map field_bytes fs ++ (field_bytes f ++ after) ≡ flat_map field_bytes (fs ++ (f ∷ [])) ++ after
one_more fs f after = cc (append_assoc (flat_map field_bytes fs) (field_bytes f) after, flat_map_more field_bytes [] fs f)

-- what is read is written as the bytes of the task so far, and then those that are left
abbrev ReadingRewrites : ℕ → Type 0
ReadingRewrites n = (place : ℕ) (bytes : List ℕ) (t : TaskContents) → Bytes bytes → Rewrites (flat_map field_bytes (draft_fields t) ++ bytes) (reading n place bytes t)

module _ (n : ℕ) (ih : ReadingRewrites n) (place : ℕ) (t : TaskContents) where
  step_rewrites : (f : FieldContents) (after : List ℕ) (s : Step) → Bytes after → Gains t f s
      → Rewrites (flat_map field_bytes (draft_fields t ++ (f ∷ [])) ++ after) (after_step n place t f after s)
  step_rewrites f after (taken u) h g = subst (λ fs. Rewrites (flat_map field_bytes fs ++ after) (reading n (place + (3 + body_length f)) after u)) g (ih (place + (3 + body_length f)) after u h)
  step_rewrites f after ended h g =
      let all : fields_of t ≡ draft_fields t ++ (f ∷ []) = cc (append_assoc (map point_field t.points) (map evicting_field t.evicting) (end ∷ [])) in
      subst (λ fs. Rewrites (flat_map field_bytes fs ++ after) (closed (place + 3) after t)) all (closed_rewrites t (place + 3) after)
  step_rewrites f after (wrong k) h g = tt

  field_rewrites : (bytes : List ℕ) (x : FieldAt) → Bytes bytes → field_at place bytes ≡ x → Rewrites (flat_map field_bytes (draft_fields t) ++ bytes) (after_field n place t x)
  field_rewrites bytes (fault k at) h e = tt
  field_rewrites bytes (field f at after) h e =
      let b = field_back place bytes f at after h e in
      let parts = bytes_parts (field_bytes f) after (subst Bytes b h) in
      let all : flat_map field_bytes (draft_fields t ++ (f ∷ [])) ++ after ≡ flat_map field_bytes (draft_fields t) ++ bytes = cc (one_more (draft_fields t) f after) in
      subst (λ zs. Rewrites zs (after_step n place t f after (step t f))) all
      (step_rewrites f after (step t f) parts.1 (step_gains t f parts.0 (field_sized place bytes f at after e)))

reading_rewrites : (n : ℕ) → ReadingRewrites n
reading_rewrites zero place bytes t h = tt
reading_rewrites (suc n) place bytes t h = field_rewrites n (reading_rewrites n) place t bytes (field_at place bytes) h refl

header_back : (body : List ℕ) → Bytes body → length body ≡ 6 → header_field (header_of body) ≡ header body
header_back [] h l = absurd (omega arith)
header_back (s ∷ []) h l = absurd (omega arith)
header_back (s ∷ w ∷ rest) h l = ap (λ (zs : List ℕ). header (s ∷ w ∷ zs)) (four_back rest h.1.1 (omega arith))

begun_rewrites : (f : FieldContents) (after : List ℕ) → Bytes (field_bytes f ++ after) → sized f ≡ true → Rewrites (field_bytes f ++ after) (begun f after)
begun_rewrites (header body) after h ok =
    let parts = bytes_parts (field_bytes (header body)) after h in
    let whole = reading (length after) 9 after (header_of body) in
    cond_both (legal_parameters (get_or body 0 0) (get_or body 1 0) (number_at body 2)) whole (refused task_layer 5 0) (Rewrites (field_bytes (header body) ++ after))
    (λ _. subst (λ f. Rewrites (field_bytes f ++ after) whole) (header_back body parts.0.1.1.1 (eqb-true (length body) 6 ok)) (reading_rewrites (length after) 9 after (header_of body) parts.1))
    (λ _. tt)
begun_rewrites (point body) after h ok = tt
begun_rewrites (evicting body) after h ok = tt
begun_rewrites end after h ok = tt

first_rewrites : (file : List ℕ) (x : FieldAt) → Bytes file → field_at 0 file ≡ x → Rewrites file (after_first x)
first_rewrites file (fault k at) h e = tt
first_rewrites file (field f at after) h e =
    let b = field_back 0 file f at after h e in
    subst (λ zs. Rewrites zs (begun f after)) (sym b) (begun_rewrites f after (subst Bytes b h) (field_sized 0 file f at after e))

pub rewriting_keeps_the_bytes : RewritingKeepsTheBytes
rewriting_keeps_the_bytes file t h e = subst (Rewrites file) e (first_rewrites file (field_at 0 file) h refl)
