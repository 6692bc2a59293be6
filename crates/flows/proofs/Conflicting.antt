-- The rule for rows of conflict sets covers the rule for the conflict sets of blocks, and settled conflict sets obey it along each
-- edge. Assumes nothing.
use Rattle.std.proofs.Common.{◌≡◌, ℕ, ◌^◌, ◌<◌, Bool, true, false, cond, eqb, ltb, List, [], length, get_or, Some, None, Option, sym, refl, ap, ◌∙◌, subst, ⊎_elim, zero-add, arith}
use lib.Bits.{bit_or}
use Rattle.std.proofs.lemmas.Bool.{both_ways, eqb-true, lt-ltb, or_cases}
use Rattle.recency.specs.Blocks.{has, set_of}
use Rattle.task.specs.Blocks.{access_at, access_index}
use Rattle.task.specs.Contents.{TaskContents, point_with}
use Rattle.task.specs.Legal.{legal}
use Rattle.cells.specs.Cells.{each}
use Rattle.cells.proofs.Lists.{getD_each}
use Rattle.rowkinds.specs.BlockSets.{block_sets, filled_up}
use Rattle.blocksets.specs.Members.{Holds, with_block}
use Rattle.blocksets.specs.declared.BlockSet.{BlockSet}
use Rattle.conflicts.specs.Conflicts.{conflict_after, conflict_cell, conflict_list, extended}
use Rattle.conflicts.specs.declared.Conflicts.{Conflicts}
use Rattle.tables.specs.Tables.{access_notes, age_job, blocks, conflict_kind, settled_conflicts}
use Rattle.tables.proofs.OwnNotes.{access_notes_at, length_access_notes}
use Rattle.soundness.specs.Flows.{Included, conflicted, joins}
use Rattle.flows.specs.Of.{index, members, members_from}
use Rattle.flows.proofs.Indexes.{index_below, at_index, same_index}
use Rattle.flows.proofs.Facts.{all_at, along, cells_at, each_length, few_blocks, own_block, edge_from, edge_to, conflicts_settled}
use Rattle.flows.proofs.Aging.{note_of, set_at}
use Rattle.flows.proofs.Members.{member_at, members_included, members_within}
use Rattle.blocksets.proofs.Digits.{or_has_left, or_has_right, pow_has}

included_same : (x : Option (List ℕ)) → Included x x
included_same None = tt
included_same (Some xs) = λ y h. h

included_trans : (x y z : Option (List ℕ)) → Included x y → Included y z → Included x z
included_trans None y z h k = tt
included_trans (Some xs) None z h k = absurd h
included_trans (Some xs) (Some ys) None h k = absurd k
included_trans (Some xs) (Some ys) (Some zs) h k = λ b m. k b (h b m)

-- a set with one more block has it, and what it had
with_has : (s : BlockSet) (b : ℕ) → b < 64 → Holds (with_block s b) b
with_has s b l = subst (λ v. Holds (record { mask = cond v (bit_or s.mask (2 ^ b)) s.mask }) b) (sym (lt-ltb b 64 l)) (or_has_right s.mask (2 ^ b) b (pow_has b))

with_keeps : (s : BlockSet) (b i : ℕ) → Holds s i → Holds (with_block s b) i
with_keeps s b i h = go (ltb b 64) where
  go : (v : Bool) → Holds (record { mask = cond v (bit_or s.mask (2 ^ b)) s.mask }) i
  go true = or_has_left s.mask (2 ^ b) i h
  go false = h

module _ (t : TaskContents) (lawful : legal t ≡ true) where
  cell : Conflicts → ℕ → Option BlockSet
  cell row x = get_or (conflict_list row) (index x (blocks t)) None

  -- the block is added
  added : (a : ℕ) → has a (blocks t) ≡ true → (near : Bool) (x : Option BlockSet) → Included (joins near a (members (blocks t) x)) (members (blocks t) (extended near (index a (blocks t)) x))
  added a ha true None = tt
  added a ha false None = tt
  added a ha false (Some s) = λ y h. h
  added a ha true (Some s) = λ y h.
      let bs = blocks t in
      let j = index a bs in
      let l = index_below a bs ha in
      let few = few_blocks t lawful in
      ⊎_elim
      (λ (e : eqb y a ≡ true).
      let k = member_at 0 j (with_block s j) bs 0 l (subst (Holds (with_block s j)) (sym (zero-add j)) (with_has s j (omega (arith, l, few)))) in
      subst (λ v. has v (members_from 0 (with_block s j) bs) ≡ true) (at_index a 0 bs ha ∙ sym (eqb-true y a e)) k)
      (λ (e : has y (members_from 0 s bs) ≡ true). members_within 0 s (with_block s j) bs (with_keeps s j) y e)
      (or_cases (eqb y a) (has y (members_from 0 s bs)) h)

  conflicted_row : (row : Conflicts) → length (conflict_list row) ≡ 64 → (o : Option ℕ) → ((a : ℕ) → o ≡ Some a → has a (blocks t) ≡ true) → (x : ℕ) → has x (blocks t) ≡ true →
      Included (conflicted t.sets o (λ y. members (blocks t) (get_or (conflict_list row) (index y (blocks t)) None)) x)
      (members (blocks t) (get_or (conflict_list ((conflict_kind t).advance row (access_index (blocks t) o))) (index x (blocks t)) None))
  conflicted_row row long None own x h = included_same _
  conflicted_row row long (Some a) own x h =
      let bs = blocks t in
      let ha = own a refl in
      let i = index x bs in
      let j = index a bs in
      let few = few_blocks t lawful in
      let li = index_below x bs h in
      let lj = index_below a bs ha in
      let sets = filled_up 64 (block_sets t) in
      let f = conflict_after sets j in
      let old = get_or (conflict_list row) i None in
      let is : get_or (conflict_list ((conflict_kind t).advance row (access_index bs (Some a)))) i None ≡ cond (eqb x a) (Some (record { mask = 0 })) (extended (eqb (set_of t.sets x) (set_of t.sets a)) j old) =
      ap (λ n. get_or (conflict_list ((conflict_kind t).advance row n)) i None) (note_of t lawful a ha)
      ∙ ap (λ v. get_or (conflict_list (cond v (record { conflicts = each f 0 (conflict_list row) }) row)) i None) (lt-ltb j (length bs) lj)
      ∙ getD_each f 0 (conflict_list row) i None (omega (arith, long, few, li))
      ∙ ap (λ k. f k old) (zero-add i)
      ∙ ap (λ v. cond v (Some (record { mask = 0 })) (extended (eqb (get_or sets i 0) (get_or sets j 0)) j old)) (same_index x a bs h ha)
      ∙ ap (λ v. cond (eqb x a) (Some (record { mask = 0 })) (extended (eqb v (get_or sets j 0)) j old)) (set_at t lawful x h)
      ∙ ap (λ v. cond (eqb x a) (Some (record { mask = 0 })) (extended (eqb (set_of t.sets x) v) j old)) (set_at t lawful a ha) in
      subst (λ v. Included (conflicted t.sets (Some a) (λ y. members bs (get_or (conflict_list row) (index y bs) None)) x) (members bs v)) (sym is)
      (go (eqb x a) (added a ha (eqb (set_of t.sets x) (set_of t.sets a)) old)) where
        go : (v : Bool) → Included (joins (eqb (set_of t.sets x) (set_of t.sets a)) a (members (blocks t) (get_or (conflict_list row) (index x (blocks t)) None))) (members (blocks t) (extended (eqb (set_of t.sets x) (set_of t.sets a)) (index a (blocks t)) (get_or (conflict_list row) (index x (blocks t)) None))) →
            Included (cond v (Some []) (joins (eqb (set_of t.sets x) (set_of t.sets a)) a (members (blocks t) (get_or (conflict_list row) (index x (blocks t)) None))))
            (members (blocks t) (cond v (Some (record { mask = 0 })) (extended (eqb (set_of t.sets x) (set_of t.sets a)) (index a (blocks t)) (get_or (conflict_list row) (index x (blocks t)) None))))
        go true m = λ y k. absurd (both_ways false refl k)
        go false m = m

  pub conflicts_along : (p q : ℕ) → has q (get_or t.points p (point_with None [])).successors ≡ true → (x : ℕ) → has x (blocks t) ≡ true →
      Included (conflicted t.sets (access_at t.points p) (λ y. members (blocks t) (get_or (conflict_list (get_or (settled_conflicts t) p (conflict_kind t).start)) (index y (blocks t)) None)) x)
      (members (blocks t) (get_or (conflict_list (get_or (settled_conflicts t) q (conflict_kind t).start)) (index x (blocks t)) None))
  conflicts_along p q e x h =
      let M = conflict_kind t in
      let J = age_job t in
      let C = conflict_cell (length (blocks t)) (filled_up 64 (block_sets t)) in
      let found = conflicts_settled t lawful in
      let s = found.1 in
      let rows = settled_conflicts t in
      let hp = edge_from t lawful p q e in
      let hq = edge_to t lawful p q e in
      let row = get_or rows p M.start in
      let long = (all_at M.own_row rows p M.start s.own.own (omega (arith, s.own.long, hp))).0 in
      let there = (all_at M.own_row rows q M.start s.own.own (omega (arith, s.own.long, hq))).0 in
      let moved = M.advance row (get_or (access_notes t) p None) in
      let under = along M J found.0 rows None (length_access_notes t) s q p hq hp e in
      let made : length (conflict_list moved) ≡ 64 = each_length C (conflict_list moved) (conflict_list (get_or rows q M.start)) under ∙ there in
      let few = few_blocks t lawful in
      let li = index_below x (blocks t) h in
      let le = cells_at C (conflict_list moved) (conflict_list (get_or rows q M.start)) (index x (blocks t)) None under (omega (arith, made, few, li)) in
      let here = subst (λ n. Included (conflicted t.sets (access_at t.points p) (λ y. members (blocks t) (get_or (conflict_list row) (index y (blocks t)) None)) x) (members (blocks t) (get_or (conflict_list (M.advance row n)) (index x (blocks t)) None)))
      (sym (access_notes_at t p hp)) (conflicted_row row long (access_at t.points p) (λ a f. own_block t lawful p a f) x h) in
      included_trans _ (members (blocks t) (get_or (conflict_list moved) (index x (blocks t)) None)) _ here
      (members_included (blocks t) (get_or (conflict_list moved) (index x (blocks t)) None) (get_or (conflict_list (get_or rows q M.start)) (index x (blocks t)) None) le)
