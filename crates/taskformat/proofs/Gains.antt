-- A field that is taken is the one that the task gains by it.
use Rattle.std.proofs.Common.{◌≡◌, ℕ, true, List, [], ◌∷◌, ◌++◌, map, length, Some, None, Option, refl, append_assoc, append-nil, arith}
use Rattle.std.proofs.lemmas.List.{map_push}
use Rattle.std.proofs.lemmas.Bool.{eqb-true, cond_both}
use Rattle.fields.specs.Layout.{FieldContents, header, point, evicting, end, field_bytes, sized}
use Rattle.task.specs.Contents.{PointContents, TaskContents, add_point, add_evicting}
use Rattle.task.specs.Adding.{Verdict, fits, too_many, unfit, point_verdict, evicting_verdict}
use Rattle.taskformat.specs.Writing.{header_field, point_field, evicting_field}
use Rattle.taskformat.specs.Reading.{number_at, point_of, Step, taken, ended, wrong, taken_if, point_step, is_empty, step}
use Rattle.taskformat.proofs.Numbers.{Bytes, four_back}
use Rattle.taskformat.proofs.Points.{body_back}

-- the fields of a task up to the end
abbrev pub draft_fields : TaskContents → List FieldContents
draft_fields t = header_field t ∷ (map point_field t.points ++ map evicting_field t.evicting)

add_point_field : (ps : List PointContents) (p : PointContents) (bs : List ℕ) → is_empty bs ≡ true
    → map point_field (ps ++ (p ∷ [])) ++ map evicting_field bs ≡ (map point_field ps ++ map evicting_field bs) ++ (point_field p ∷ [])
add_point_field ps p [] h = simp (append-nil, map_push)
add_point_field ps p (b ∷ bs) h = absurd (let z : ◌≡◌ {A = ℕ} 0 1 = cc in omega arith)

add_evicting_field : (ps : List PointContents) (bs : List ℕ) (b : ℕ)
    → map point_field ps ++ map evicting_field (bs ++ (b ∷ [])) ≡ (map point_field ps ++ map evicting_field bs) ++ (evicting_field b ∷ [])
add_evicting_field ps bs b = simp (append_assoc, map_push)

-- a field that is taken is the one that the task gains, and one that ends the task is the end
abbrev pub Gains : TaskContents → FieldContents → Step → Type 0
Gains t f (taken u) = draft_fields u ≡ draft_fields t ++ (f ∷ [])
Gains t f ended = f ≡ end
Gains t f (wrong k) = Unit {0}

module _ (t : TaskContents) where
  gains_if : (d : Verdict) (u : TaskContents) (f : FieldContents) → Gains t f (taken u) → Gains t f (taken_if d u)
  gains_if fits u f g = g
  gains_if unfit u f g = tt
  gains_if too_many u f g = tt

  gains_point : (body : List ℕ) (o : Option PointContents) → Bytes body → sized (point body) ≡ true → is_empty t.evicting ≡ true → point_of body ≡ o
      → Gains t (point body) (point_step t o)
  gains_point body None h ok none e = tt
  gains_point body (Some p) h ok none e =
      gains_if (point_verdict t p) (add_point t p) (point body) (cc (add_point_field t.points p t.evicting none, body_back body p h ok e))

  pub step_gains : (f : FieldContents) → Bytes (field_bytes f) → sized f ≡ true → Gains t f (step t f)
  step_gains (header body) h ok = tt
  step_gains (point body) h ok =
      cond_both (is_empty t.evicting) (point_step t (point_of body)) (wrong 3) (Gains t (point body)) (λ none. gains_point body (point_of body) h.1.1.1 ok none refl) (λ _. tt)
  step_gains (evicting body) h ok =
      let n = number_at body 0 in
      cond_both (is_empty t.points) (wrong 3) (taken_if (evicting_verdict t n) (add_evicting t n)) (Gains t (evicting body)) (λ _. tt)
      (λ _. gains_if (evicting_verdict t n) (add_evicting t n) (evicting body) (cc (add_evicting_field t.points t.evicting n, four_back body h.1.1.1 (eqb-true (length body) 4 ok))))
  step_gains end h ok = cond_both (is_empty t.points) (wrong 3) ended (Gains t end) (λ _. tt) (λ _. refl)
