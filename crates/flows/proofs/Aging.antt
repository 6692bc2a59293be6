-- The rule for rows of ages is the rule for ages of blocks, and settled ages obey it along each edge. Assumes nothing.
use Rattle.std.proofs.Common.{◌≡◌, ℕ, ◌<◌, ◌≤◌, true, cond, eqb, List, [], length, get_or, Some, None, Option, refl, ap, ◌∙◌, subst, zero-add, arith}
use lib.ListN.{length-map}
use Rattle.std.proofs.lemmas.Bool.{lt-ltb}
use Rattle.recency.specs.Blocks.{has, set_of}
use Rattle.task.specs.Blocks.{access_at, access_index}
use Rattle.task.specs.Contents.{TaskContents, point_with}
use Rattle.task.specs.Legal.{legal}
use Rattle.fixpoint.specs.Graph.{is_input}
use Rattle.fixpoint.specs.Rounds.{job_of}
use Rattle.fixpoint.specs.Settled.{Settled}
use Rattle.fixpoint.specs.declared.direction.Direction.{Direction}
use Rattle.fixpoint.specs.declared.direction.Direction.TheVariants.{Forward, Backward}
use Rattle.cells.specs.Cells.{each}
use Rattle.cells.proofs.Lists.{getD_each}
use Rattle.rowkinds.specs.Ages.{age_after, age_cell, age_list, grown}
use Rattle.rowkinds.specs.BlockSets.{block_sets, filled_up}
use Rattle.rowkinds.specs.declared.ages.Ages.{Ages}
use Rattle.tables.specs.Tables.{access_notes, age_kind, blocks, settled_ages, settled_reuses}
use Rattle.tables.proofs.OwnNotes.{access_notes_at, length_access_notes}
use Rattle.soundness.specs.Flows.{aged}
use Rattle.flows.specs.Of.{age_of, index}
use Rattle.flows.proofs.Indexes.{index_below, at_index, first_is_index, same_index, getD_filled, get_d_map}
use Rattle.flows.proofs.Facts.{all_at, along, cells_at, each_length, few_blocks, own_block, edge_from, edge_to, ages_settled, reuses_settled}

module _ (t : TaskContents) (lawful : legal t ≡ true) where
  -- the cache set at a block's index is its own
  pub set_at : (x : ℕ) → has x (blocks t) ≡ true → get_or (filled_up 64 (block_sets t)) (index x (blocks t)) 0 ≡ set_of t.sets x
  set_at x h =
      let few = few_blocks t lawful in
      let l = index_below x (blocks t) h in
      getD_filled 64 (block_sets t) (index x (blocks t)) (let m = length-map (blocks t) (set_of t.sets) in omega (arith, m, few))
      ∙ get_d_map (set_of t.sets) (blocks t) (index x (blocks t)) l ∙ ap (set_of t.sets) (at_index x 0 (blocks t) h)

  -- the note of an access is the index of its block
  pub note_of : (a : ℕ) → has a (blocks t) ≡ true → access_index (blocks t) (Some a) ≡ Some (index a (blocks t))
  note_of a h = first_is_index a (blocks t) 0 h ∙ ap Some (zero-add (index a (blocks t)))

  pub aged_row : (row : Ages) → length (age_list row) ≡ 64 → (o : Option ℕ) → ((a : ℕ) → o ≡ Some a → has a (blocks t) ≡ true) → (x : ℕ) → has x (blocks t) ≡ true →
      age_of t ((age_kind t).advance row (access_index (blocks t) o)) x ≡ aged t.sets t.ways o (age_of t row) x
  aged_row row long None own x h = refl
  aged_row row long (Some a) own x h =
      let bs = blocks t in
      let ha = own a refl in
      let i = index x bs in
      let j = index a bs in
      let few = few_blocks t lawful in
      let li = index_below x bs h in
      let lj = index_below a bs ha in
      let f = age_after t.ways (filled_up 64 (block_sets t)) j (get_or (age_list row) j 0) in
      ap (λ n. age_of t ((age_kind t).advance row n) x) (note_of a ha)
      ∙ ap (λ v. get_or (age_list (cond v (record { ages = each f 0 (age_list row) }) row)) i 0) (lt-ltb j (length bs) lj)
      ∙ getD_each f 0 (age_list row) i 0 (omega (arith, long, few, li))
      ∙ ap (λ k. f k (get_or (age_list row) i 0)) (zero-add i)
      ∙ ap (λ v. cond v 0 (grown t.ways (eqb (get_or (filled_up 64 (block_sets t)) i 0) (get_or (filled_up 64 (block_sets t)) j 0)) (get_or (age_list row) j 0) (get_or (age_list row) i 0))) (same_index x a bs h ha)
      ∙ ap (λ v. cond (eqb x a) 0 (grown t.ways (eqb v (get_or (filled_up 64 (block_sets t)) j 0)) (get_or (age_list row) j 0) (get_or (age_list row) i 0))) (set_at x h)
      ∙ ap (λ v. cond (eqb x a) 0 (grown t.ways (eqb (set_of t.sets x) v) (get_or (age_list row) j 0) (get_or (age_list row) i 0))) (set_at a ha)

  -- along an input, forward or backward
  aged_along : (rows : List Ages) (k : ℕ) (direction : Direction) → Settled (age_kind t) (job_of direction t.points (access_notes t)) k rows →
      (p q : ℕ) → p < length t.points → q < length t.points → is_input direction t.points p q ≡ true → (x : ℕ) → has x (blocks t) ≡ true →
      age_of t (get_or rows p (age_kind t).start) x ≤ aged t.sets t.ways (access_at t.points q) (age_of t (get_or rows q (age_kind t).start)) x
  aged_along rows k direction s p q hp hq e x h =
      let M = age_kind t in
      let J = job_of direction t.points (access_notes t) in
      let row = get_or rows q M.start in
      let long : length (age_list row) ≡ 64 = (all_at M.own_row rows q M.start s.own.own (omega (arith, s.own.long, hq))).0 in
      let note = access_notes_at t q hq in
      let under = along M J k rows None (length_access_notes t) s p q hp hq e in
      let few = few_blocks t lawful in
      let li = index_below x (blocks t) h in
      let there = (all_at M.own_row rows p M.start s.own.own (omega (arith, s.own.long, hp))).0 in
      let made : length (age_list (M.advance row (get_or (access_notes t) q None))) ≡ 64 =
      each_length (age_cell t.ways (length (blocks t))) (age_list (M.advance row (get_or (access_notes t) q None))) (age_list (get_or rows p M.start)) under ∙ there in
      let le = cells_at (age_cell t.ways (length (blocks t))) (age_list (M.advance row (get_or (access_notes t) q None))) (age_list (get_or rows p M.start)) (index x (blocks t)) 0 under (omega (arith, made, few, li)) in
      let is : age_of t (M.advance row (get_or (access_notes t) q None)) x ≡ aged t.sets t.ways (access_at t.points q) (age_of t row) x =
      ap (λ n. age_of t (M.advance row n) x) note ∙ aged_row row long (access_at t.points q) (λ a f. own_block t lawful q a f) x h in
      subst (λ v. age_of t (get_or rows p M.start) x ≤ v) is le

  pub ages_along : (p q : ℕ) → has q (get_or t.points p (point_with None [])).successors ≡ true → (x : ℕ) → has x (blocks t) ≡ true →
      age_of t (get_or (settled_ages t) q (age_kind t).start) x ≤ aged t.sets t.ways (access_at t.points p) (age_of t (get_or (settled_ages t) p (age_kind t).start)) x
  ages_along p q e x h = let s = ages_settled t lawful in aged_along (settled_ages t) s.0 Forward s.1 q p (edge_to t lawful p q e) (edge_from t lawful p q e) e x h

  pub reuses_along : (p q : ℕ) → has q (get_or t.points p (point_with None [])).successors ≡ true → (x : ℕ) → has x (blocks t) ≡ true →
      age_of t (get_or (settled_reuses t) p (age_kind t).start) x ≤ aged t.sets t.ways (access_at t.points q) (age_of t (get_or (settled_reuses t) q (age_kind t).start)) x
  reuses_along p q e x h = let s = reuses_settled t lawful in aged_along (settled_reuses t) s.0 Backward s.1 p q (edge_from t lawful p q e) (edge_to t lawful p q e) e x h
