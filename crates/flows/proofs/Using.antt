-- The rule for rows of widest next uses is the rule for those of blocks, and settled ones obey it along each edge. Assumes nothing.
use Rattle.std.proofs.Common.{◌≡◌, ℕ, zero, suc, ◌+◌, ◌<◌, ◌≤◌, true, cond, List, [], ◌∷◌, length, get_or, set, Some, None, Option, sym, refl, ap, ◌∙◌, subst, ⊎_elim, arith, get_or-set_other, get_or-set_same}
use Rattle.std.proofs.lemmas.Bool.{cases_eq, eq-eqb, ne_eqb, lt-ltb}
use Rattle.recency.specs.Blocks.{has}
use Rattle.task.specs.Blocks.{access_at, access_index}
use Rattle.task.specs.Contents.{TaskContents, point_with}
use Rattle.task.specs.Legal.{legal}
use Rattle.cells.specs.Cells.{Cell, OwnCells}
use Rattle.rowkinds.specs.BlockSets.{block_sets, filled_up}
use Rattle.blocksets.specs.declared.BlockSet.{BlockSet}
use Rattle.conflicts.specs.Conflicts.{OwnConflict, conflict_cell, conflict_list}
use Rattle.conflicts.specs.declared.Conflicts.{Conflicts}
use Rattle.widest.specs.NextUses.{count_cell, count_list, level, next_uses_row}
use Rattle.widest.specs.declared.next_uses.NextUses.{NextUses}
use Rattle.tables.specs.Tables.{access_notes, blocks, conflict_kind, next_use_job, next_use_kind, settled_conflicts, settled_widest, size_of, use_note, use_notes}
use Rattle.tables.proofs.OwnNotes.{access_notes_at, length_access_notes, length_use_notes, use_notes_at}
use Rattle.soundness.specs.Flows.{AtMost, counted, widened}
use Rattle.flows.specs.Of.{index, members}
use Rattle.flows.proofs.Indexes.{index_below, at_index}
use Rattle.flows.proofs.Facts.{all_at, along, cells_at, each_length, few_blocks, own_block, edge_from, edge_to, conflicts_settled, widest_settled}
use Rattle.flows.proofs.Aging.{note_of}
use Rattle.flows.proofs.Members.{members_size}

level_at_most : (a b : Option ℕ) → level a ≤ level b → AtMost a b
level_at_most None b h = tt
level_at_most (Some j) None h = absurd (omega arith)
level_at_most (Some j) (Some k) h = omega arith

own_at : {E : Type 0} (C : Cell E) (i k : ℕ) (xs : List E) (d : E) → OwnCells C i xs → k < length xs → C.own (i + k) (get_or xs k d)
own_at C i k [] d h l = absurd (omega arith)
own_at C i zero (x ∷ xs) d h l = let q : i ≡ i + 0 = omega arith in subst (λ j. C.own j x) q h.0
own_at C i (suc k) (x ∷ xs) d h l = let q : suc i + k ≡ i + suc k = omega arith in subst (λ j. C.own j (get_or xs k d)) q (own_at C (suc i) k xs d h.1 (omega arith))

module _ (t : TaskContents) (lawful : legal t ≡ true) where
  -- as many members as the set has blocks
  counted_size : (sets : List ℕ) (i : ℕ) (x : Option BlockSet) → OwnConflict (length (blocks t)) sets i x → counted (members (blocks t) x) ≡ size_of x
  counted_size sets i None h = refl
  counted_size sets i (Some s) h = ap Some (members_size s (blocks t) (few_blocks t lawful) (λ j held. (h.1 j held).0))

  pub widened_row : (crow : Conflicts) → (conflict_kind t).own_row crow → (wrow : NextUses) → length (count_list wrow) ≡ 64 → (o : Option ℕ) → ((a : ℕ) → o ≡ Some a → has a (blocks t) ≡ true) → (x : ℕ) → has x (blocks t) ≡ true →
      get_or (count_list ((next_use_kind t).advance wrow (use_note crow (access_index (blocks t) o)))) (index x (blocks t)) None
      ≡ widened o (λ y. members (blocks t) (get_or (conflict_list crow) (index y (blocks t)) None)) (λ y. get_or (count_list wrow) (index y (blocks t)) None) x
  widened_row crow own wrow long None owns x h = refl
  widened_row crow own wrow long (Some a) owns x h =
      let bs = blocks t in
      let ha = owns a refl in
      let i = index x bs in
      let j = index a bs in
      let few = few_blocks t lawful in
      let li = index_below x bs h in
      let lj = index_below a bs ha in
      let v = size_of (get_or (conflict_list crow) j None) in
      let cells = count_list wrow in
      let is : get_or (count_list ((next_use_kind t).advance wrow (use_note crow (access_index bs (Some a))))) i None ≡ get_or (set cells j v) i None =
      ap (λ n. get_or (count_list ((next_use_kind t).advance wrow (use_note crow n))) i None) (note_of t lawful a ha)
      ∙ ap (λ b. get_or (count_list (cond b (next_uses_row (set cells j v)) wrow)) i None) (lt-ltb j (length bs) lj) in
      is
      ∙ ⊎_elim
      (λ (e : x ≡ a).
      let same : i ≡ j = ap (λ y. index y bs) e in
      let sized : counted (members bs (get_or (conflict_list crow) i None)) ≡ size_of (get_or (conflict_list crow) i None) =
      counted_size (filled_up 64 (block_sets t)) (0 + i) (get_or (conflict_list crow) i None)
      (own_at (conflict_cell (length bs) (filled_up 64 (block_sets t))) 0 i (conflict_list crow) None own.1 (omega (arith, own.0, few, li))) in
      ap (λ k. get_or (set cells j v) k None) same ∙ get_or-set_same cells j v None (omega (arith, long, few, lj))
      ∙ ap (λ k. size_of (get_or (conflict_list crow) k None)) (sym same) ∙ sym sized
      ∙ sym (ap (λ b. cond b (counted (members bs (get_or (conflict_list crow) i None))) (get_or cells i None)) (eq-eqb x a e)))
      (λ (ne : x ≡ a → ⊥).
      get_or-set_other cells j i v None (λ e. ne (sym (at_index x 0 bs h) ∙ ap (λ k. get_or bs k 0) e ∙ at_index a 0 bs ha))
      ∙ sym (ap (λ b. cond b (counted (members bs (get_or (conflict_list crow) i None))) (get_or cells i None)) (ne_eqb x a ne)))
      (cases_eq x a)

  pub uses_along : (p q : ℕ) → has q (get_or t.points p (point_with None [])).successors ≡ true → (x : ℕ) → has x (blocks t) ≡ true →
      AtMost
      (widened (access_at t.points q) (λ y. members (blocks t) (get_or (conflict_list (get_or (settled_conflicts t) q (conflict_kind t).start)) (index y (blocks t)) None)) (λ y. get_or (count_list (get_or (settled_widest t) q (next_use_kind t).start)) (index y (blocks t)) None) x)
      (get_or (count_list (get_or (settled_widest t) p (next_use_kind t).start)) (index x (blocks t)) None)
  uses_along p q e x h =
      let M = next_use_kind t in
      let J = next_use_job t in
      let C = count_cell (length (blocks t)) in
      let K = conflict_kind t in
      let sets = settled_conflicts t in
      let rows = settled_widest t in
      let kept = (conflicts_settled t lawful).1 in
      let found = widest_settled t lawful in
      let s = found.1 in
      let hp = edge_from t lawful p q e in
      let hq = edge_to t lawful p q e in
      let crow = get_or sets q K.start in
      let own = all_at K.own_row sets q K.start kept.own.own (omega (arith, kept.own.long, hq)) in
      let wrow = get_or rows q M.start in
      let long = (all_at M.own_row rows q M.start s.own.own (omega (arith, s.own.long, hq))).0 in
      let there = (all_at M.own_row rows p M.start s.own.own (omega (arith, s.own.long, hp))).0 in
      let notes = access_notes t in
      let n = length_access_notes t in
      let many = length_use_notes sets notes (kept.own.long ∙ sym n) in
      let note : get_or (use_notes sets notes) q None ≡ use_note crow (access_index (blocks t) (access_at t.points q)) =
      use_notes_at sets notes q K.start (omega (arith, kept.own.long, hq)) (omega (arith, n, hq)) ∙ ap (use_note crow) (access_notes_at t q hq) in
      let moved = M.advance wrow (get_or (use_notes sets notes) q None) in
      let under = along M J found.0 rows None (many ∙ n) s p q hp hq e in
      let made : length (count_list moved) ≡ 64 = each_length C (count_list moved) (count_list (get_or rows p M.start)) under ∙ there in
      let few = few_blocks t lawful in
      let li = index_below x (blocks t) h in
      let le = cells_at C (count_list moved) (count_list (get_or rows p M.start)) (index x (blocks t)) None under (omega (arith, made, few, li)) in
      subst (λ v. AtMost v (get_or (count_list (get_or rows p M.start)) (index x (blocks t)) None))
      (ap (λ m. get_or (count_list (M.advance wrow m)) (index x (blocks t)) None) note ∙ widened_row crow own wrow long (access_at t.points q) (λ a f. own_block t lawful q a f) x h)
      (level_at_most _ _ le)
