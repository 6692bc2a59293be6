-- What is known of a legal task and of its settled tables. Assumes nothing.
use Rattle.std.proofs.Common.{◌≡◌, ℕ, zero, suc, ◌<◌, ◌≤◌, Bool, true, false, ◌||◌, eqb, ltb, List, [], ◌∷◌, length, get_or, Some, None, sym, refl, ap, ◌∙◌, subst, ⊎_elim, arith}
use Rattle.std.specs.List.{AllByRecursion}
use Rattle.std.proofs.lemmas.Bool.{and_parts, both_ways, eq-eqb, ltb-true, or_cases, eqb-true}
use Rattle.recency.specs.Blocks.{distinct, has}
use Rattle.task.specs.Blocks.{access_at, accessed, is_access}
use Rattle.task.specs.Contents.{PointContents, TaskContents, point_with}
use Rattle.task.specs.Legal.{closed_point, complete, legal, legal_draft}
use Rattle.task.specs.Lists.{every}
use Rattle.task.proofs.Blocks.{lists_each_access_once}
use Rattle.task.proofs.Drafting.{kept}
use Rattle.fixpoint.specs.Kinds.{Meaning}
use Rattle.fixpoint.specs.Rounds.{Job, size}
use Rattle.fixpoint.specs.Graph.{is_input}
use Rattle.fixpoint.specs.Settled.{Settled}
use Rattle.fixpoint.proofs.Always.{always_settled}
use Rattle.fixpoint.proofs.Steps.{advanced_is}
use Rattle.cells.specs.Cells.{Cell, EachAtOrBefore}
use Rattle.rowkinds.specs.BlockSets.{block_sets, filled_up}
use Rattle.rowkinds.specs.Laws.{ages_laws, ages_tell}
use Rattle.conflicts.specs.Laws.{conflicts_laws, conflicts_tell}
use Rattle.widest.specs.Laws.{next_uses_laws, next_uses_tell}
use Rattle.tables.specs.Tables.{access_notes, age_job, age_kind, blocks, conflict_kind, next_use_job, next_use_kind, reuse_job, settled_ages, settled_reuses, settled_conflicts, settled_widest}
use Rattle.tables.proofs.OwnNotes.{own_access_notes, own_use_notes}

-- a list has an element at each place before its end, whatever stands for those past it
pub any_default : {X : Type 0} (xs : List X) (i : ℕ) (c d : X) → i < length xs → get_or xs i c ≡ get_or xs i d
any_default [] i c d h = absurd (omega arith)
any_default (x ∷ xs) zero c d h = refl
any_default (x ∷ xs) (suc i) c d h = any_default xs i c d (omega arith)

pub cells_at : {E : Type 0} (C : Cell E) (xs ys : List E) (i : ℕ) (d : E) → EachAtOrBefore C xs ys → i < length xs → C.at_or_before (get_or xs i d) (get_or ys i d)
cells_at C [] ys i d u h = absurd (omega arith)
cells_at C (x ∷ xs) [] i d u h = absurd u
cells_at C (x ∷ xs) (y ∷ ys) zero d u h = u.0
cells_at C (x ∷ xs) (y ∷ ys) (suc i) d u h = cells_at C xs ys i d u.1 (omega arith)

pub each_length : {E : Type 0} (C : Cell E) (xs ys : List E) → EachAtOrBefore C xs ys → length xs ≡ length ys
each_length C [] [] u = refl
each_length C [] (y ∷ ys) u = absurd u
each_length C (x ∷ xs) [] u = absurd u
each_length C (x ∷ xs) (y ∷ ys) u = ap suc (each_length C xs ys u.1)

pub all_at : {X : Type 0} (P : X → Type 0) (xs : List X) (i : ℕ) (d : X) → AllByRecursion P xs → i < length xs → P (get_or xs i d)
all_at P [] i d h l = absurd (omega arith)
all_at P (x ∷ xs) zero d h l = h.0
all_at P (x ∷ xs) (suc i) d h l = all_at P xs i d h.1 (omega arith)

-- along an input, a settled table has the advanced row at or before the point's row
pub along : {Row Note : Type 0} (M : Meaning Row Note) (J : Job Note) (k : ℕ) (rows : List Row) (d : Note) → length J.notes ≡ size J → Settled M J k rows → (p q : ℕ) → p < size J → q < size J → is_input J.direction J.points p q ≡ true →
    M.at_or_before (M.advance (get_or rows q M.start) (get_or J.notes q d)) (get_or rows p M.start)
along M J k rows d long s p q hp hq e =
    let l : q < length rows = omega (arith, s.own.long, hq) in
    let m : q < length J.notes = omega (arith, long, hq) in
    subst (λ r. M.at_or_before r (get_or rows p M.start))
    (sym (advanced_is M J rows J.notes q (get_or rows q M.start) (get_or J.notes q d) l m (any_default rows q M.start (get_or rows q M.start) l) (any_default J.notes q d (get_or J.notes q d) m)))
    ((s.joins p hp).beyond q hq e)

-- what some point accesses
accessed_at : (ps : List PointContents) (p b : ℕ) → access_at ps p ≡ Some b → accessed b ps ≡ true
accessed_at [] p b e = let z : ◌≡◌ {A = ℕ} 0 1 = cc in absurd (omega arith)
accessed_at (x ∷ ps) zero b e = ap (λ o. is_access b o || accessed b ps) e ∙ ap (λ v. v || accessed b ps) (eq-eqb b b refl)
accessed_at (x ∷ ps) (suc p) b e = ap (λ v. is_access b x.access || v) (accessed_at ps p b e) ∙ or_true (is_access b x.access) where
  or_true : (v : Bool) → (v || true) ≡ true
  or_true true = refl
  or_true false = refl

every_at : (test : PointContents → Bool) (ps : List PointContents) (p : ℕ) (d : PointContents) → every test ps ≡ true → p < length ps → test (get_or ps p d) ≡ true
every_at test [] p d h l = absurd (omega arith)
every_at test (x ∷ ps) zero d h l = (and_parts (test x) (every test ps) h).0
every_at test (x ∷ ps) (suc p) d h l = every_at test ps p d (and_parts (test x) (every test ps) h).1 (omega arith)

every_has : (test : ℕ → Bool) (xs : List ℕ) (x : ℕ) → every test xs ≡ true → has x xs ≡ true → test x ≡ true
every_has test [] x h i = absurd (both_ways false refl i)
every_has test (y ∷ xs) x h i =
    let parts = and_parts (test y) (every test xs) h in
    ⊎_elim (λ (e : eqb x y ≡ true). ap test (eqb-true x y e) ∙ parts.0) (λ (e : has x xs ≡ true). every_has test xs x parts.1 e) (or_cases (eqb x y) (has x xs) i)

-- a point that has successors is a point of the task
below_length : (ps : List PointContents) (p q : ℕ) → has q (get_or ps p (point_with None [])).successors ≡ true → p < length ps
below_length [] p q h = absurd (both_ways false refl h)
below_length (x ∷ ps) zero q h = omega arith
below_length (x ∷ ps) (suc p) q h = let r = below_length ps p q h in omega arith

module _ (t : TaskContents) (lawful : legal t ≡ true) where
  parts : (legal_draft t ≡ true) × (complete t.points ≡ true)
  parts = and_parts (legal_draft t) (complete t.points) lawful

  pub few_blocks : length (blocks t) ≤ 64
  few_blocks = (kept t parts.0).blocks_few

  pub distinct_blocks_of : distinct (blocks t) ≡ true
  distinct_blocks_of = (lists_each_access_once t.points).once

  pub own_block : (p b : ℕ) → access_at t.points p ≡ Some b → has b (blocks t) ≡ true
  own_block p b e = (lists_each_access_once t.points).exactly b ∙ accessed_at t.points p b e

  -- both ends of an edge are points of the task
  pub edge_from : (p q : ℕ) → has q (get_or t.points p (point_with None [])).successors ≡ true → p < length t.points
  edge_from p q h = below_length t.points p q h

  pub edge_to : (p q : ℕ) → has q (get_or t.points p (point_with None [])).successors ≡ true → q < length t.points
  edge_to p q h =
      let closed = (and_parts _ _ parts.1).1 in
      ltb-true q (length t.points) (every_has (λ s. ltb s (length t.points)) _ q (every_at (closed_point (length t.points)) t.points p (point_with None []) closed (edge_from p q h)) h)

  pub ages_settled : (k : ℕ) × Settled (age_kind t) (age_job t) k (settled_ages t)
  ages_settled = always_settled (age_kind t) (ages_laws _ _ _) (ages_tell t.ways (length (blocks t)) (filled_up 64 (block_sets t))) (age_job t) (own_access_notes t)

  pub reuses_settled : (k : ℕ) × Settled (age_kind t) (reuse_job t) k (settled_reuses t)
  reuses_settled = always_settled (age_kind t) (ages_laws _ _ _) (ages_tell t.ways (length (blocks t)) (filled_up 64 (block_sets t))) (reuse_job t) (own_access_notes t)

  pub conflicts_settled : (k : ℕ) × Settled (conflict_kind t) (age_job t) k (settled_conflicts t)
  conflicts_settled = always_settled (conflict_kind t) (conflicts_laws _ _) (conflicts_tell _ _) (age_job t) (own_access_notes t)

  pub widest_settled : (k : ℕ) × Settled (next_use_kind t) (next_use_job t) k (settled_widest t)
  widest_settled =
      always_settled (next_use_kind t) (next_uses_laws _) (next_uses_tell _) (next_use_job t)
      (own_use_notes (length (blocks t)) few_blocks (filled_up 64 (block_sets t)) (settled_conflicts t) (access_notes t) conflicts_settled.1.own.own (own_access_notes t))
