-- Rereading what was written keeps the task.
use Rattle.std.proofs.Common.{◌≡◌, ℕ, zero, suc, ◌+◌, ◌≤◌, Bool, true, false, not, leb, List, [], ◌∷◌, ◌++◌, map, length, None, sym, refl, ap, ◌∙◌, subst, append_assoc, append-nil, arith, length-append}
use Rattle.std.specs.List.{flat_map}
use Rattle.std.proofs.lemmas.Bool.{and_parts, cond-true, cond-false, ltb-true}
use Rattle.std.proofs.lemmas.Bool.Decides.{nat_tests}
use Rattle.fields.specs.Layout.{FieldContents, header, point, evicting, end, field_bytes, body_length, sized}
use Rattle.task.specs.Contents.{PointContents, TaskContents, task_with, add_point, add_evicting}
use Rattle.task.specs.Legal.{is_block, closed_point, first_open, legal_point, legal_parameters, legal_evicting, few_points, few_evicting}
use Rattle.task.specs.Lists.{every, first_from}
use Rattle.task.specs.Adding.{fits, too_many}
use Rattle.taskformat.specs.Writing.{four_bytes, point_field, evicting_field}
use Rattle.taskformat.specs.Reading.{taken, ended, wrong, taken_if, point_step, is_empty, step, closed_at, reading, accepted, begun, meaning}
use Rattle.taskformat.specs.Inverse.{RereadingKeepsTheTask}
use Rattle.taskformat.proofs.Numbers.{number_back}
use Rattle.taskformat.proofs.Fields.{field_first}
use Rattle.taskformat.proofs.Fronts.{legal_evicting_front, few_evicting_front, few_points_front}
use Rattle.taskformat.proofs.Points.{point_back, point_sized}
use Rattle.taskformat.proofs.Steps.{after_step, after_field, after_first}

-- read onto t, the bytes of the fields give u
abbrev Reads : TaskContents → List FieldContents → TaskContents → Type 0
Reads t fs u = (n place : ℕ) → length (flat_map field_bytes fs) ≤ n → reading n place (flat_map field_bytes fs) t ≡ accepted u

some_bytes : (f : FieldContents) → 1 ≤ length (field_bytes f)
some_bytes (header body) = omega arith
some_bytes (point body) = omega arith
some_bytes (evicting body) = omega arith
some_bytes end = omega arith

-- a field that is taken, and then the others
field_read : (f : FieldContents) (fs : List FieldContents) (t u v : TaskContents) → sized f ≡ true → step t f ≡ taken v → Reads v fs u → Reads t (f ∷ fs) u
field_read f fs t u v ok s r zero place l = absurd (omega (arith, some_bytes f, length-append (field_bytes f) (flat_map field_bytes fs)))
field_read f fs t u v ok s r (suc n) place l =
    let rest = flat_map field_bytes fs in
    ap (after_field n place t) (field_first f place rest ok)
    ∙ ap (after_step n place t f rest) s
    ∙ r n (place + (3 + body_length f)) (omega (arith, some_bytes f, length-append (field_bytes f) rest))

end_read : (t : TaskContents) → is_empty t.points ≡ false → first_open t.points ≡ None → Reads t (end ∷ []) t
end_read t some o zero place l = absurd (omega arith)
end_read t some o (suc n) place l = ap (after_step n place t end []) (cond-false (is_empty t.points) (wrong 3) ended some) ∙ ap (closed_at t) o

module _ (sets ways reload : ℕ) (fs : List FieldContents) (u : TaskContents) where
  -- points, onto those that are done, and then the others
  points_read : (ps done all : List PointContents) → done ++ ps ≡ all → every legal_point ps ≡ true → few_points all ≡ true
      → Reads (task_with sets ways reload all []) fs u → Reads (task_with sets ways reload done []) (map point_field ps ++ fs) u
  points_read [] done all e h few r = subst (λ qs. Reads (task_with sets ways reload qs []) fs u) (sym e ∙ append-nil done) r
  points_read (p ∷ ps) done all e h few r =
      let t = task_with sets ways reload done [] in
      let more = done ++ (p ∷ []) in
      let i = append_assoc done (p ∷ []) ps ∙ e in
      let parts = and_parts (legal_point p) (every legal_point ps) h in
      let few_so_far = few_points_front more ps (ap few_points i ∙ few) in
      field_read (point_field p) (map point_field ps ++ fs) t u (add_point t p) (point_sized p.access p.successors parts.0)
      (ap (point_step t) (point_back p.access p.successors parts.0)
      ∙ ap (λ v. taken_if v (add_point t p)) (cond-true (few_points more) fits too_many few_so_far))
      (points_read ps more all i parts.1 few r)

  -- evicting blocks in the same way
  evicting_read : (ps : List PointContents) (bs done all : List ℕ) → is_empty ps ≡ false → done ++ bs ≡ all → every is_block bs ≡ true → legal_evicting all ≡ true → few_evicting all ≡ true
      → Reads (task_with sets ways reload ps all) fs u → Reads (task_with sets ways reload ps done) (map evicting_field bs ++ fs) u
  evicting_read ps [] done all some e h legal few r = subst (λ cs. Reads (task_with sets ways reload ps cs) fs u) (sym e ∙ append-nil done) r
  evicting_read ps (b ∷ bs) done all some e h legal few r =
      let t = task_with sets ways reload ps done in
      let more = done ++ (b ∷ []) in
      let i = append_assoc done (b ∷ []) bs ∙ e in
      let parts = and_parts (is_block b) (every is_block bs) h in
      let below = ltb-true b 16777216 parts.0 in
      let legal_so_far = legal_evicting_front more bs (ap legal_evicting i ∙ legal) in
      let few_so_far = few_evicting_front more bs (ap few_evicting i ∙ few) in
      let same = number_back b (omega arith) in
      field_read (evicting_field b) (map evicting_field bs ++ fs) t u (add_evicting t b) refl (grind arith)
      (evicting_read ps bs more all some i parts.1 legal few r)

  -- the header, and then the others
  header_read : legal_parameters sets ways reload ≡ true → Reads (task_with sets ways reload [] []) fs u
      → meaning (field_bytes (header (sets ∷ ways ∷ four_bytes reload)) ++ flat_map field_bytes fs) ≡ accepted u
  header_read h r =
      let rest = flat_map field_bytes fs in
      let f = header (sets ∷ ways ∷ four_bytes reload) in
      let low : reload ≤ 1000000 = grind (arith, nat_tests) in
      let same = number_back reload (omega arith) in
      let all = r (length rest) 9 (omega arith) in
      let later : begun f rest ≡ accepted u = grind arith in
      ap after_first (field_first f 0 rest refl) ∙ later

not_empty : {X : Type 0} (xs : List X) → leb 1 (length xs) ≡ true → is_empty xs ≡ false
not_empty [] h = absurd (let z : ◌≡◌ {A = ℕ} 0 1 = cc in omega arith)
not_empty (x ∷ xs) h = refl

all_good : {X : Type 0} (good : X → Bool) (i : ℕ) (xs : List X) → every good xs ≡ true → first_from i (λ x. not (good x)) xs ≡ None
all_good good i [] h = refl
all_good good i (x ∷ xs) h = let e = all_good good (suc i) xs in grind arith

pub rereading_keeps_the_task : RereadingKeepsTheTask
rereading_keeps_the_task t h =
    let ps = t.points in
    let bs = t.evicting in
    let parameters : legal_parameters t.sets t.ways t.reload ≡ true = grind arith in
    let legal_ps : every legal_point ps ≡ true = grind arith in
    let few_ps : few_points ps ≡ true = grind arith in
    let in_range : every is_block bs ≡ true = grind arith in
    let legal_bs : legal_evicting bs ≡ true = grind arith in
    let few_bs : few_evicting bs ≡ true = grind arith in
    let any : leb 1 (length ps) ≡ true = grind arith in
    let closed : every (closed_point (length ps)) ps ≡ true = grind arith in
    let some = not_empty ps any in
    let last = end_read t some (all_good (closed_point (length ps)) 0 ps closed) in
    let blocks = evicting_read t.sets t.ways t.reload (end ∷ []) t ps bs [] bs some refl in_range legal_bs few_bs last in
    let fields = map evicting_field bs ++ (end ∷ []) in
    let points = points_read t.sets t.ways t.reload fields t ps [] ps refl legal_ps few_ps blocks in
    header_read t.sets t.ways t.reload (map point_field ps ++ fields) t parameters points
