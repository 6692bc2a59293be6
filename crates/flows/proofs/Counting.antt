-- The resilient number of a point, counted over indices, is that counted over blocks. Assumes nothing.
use Rattle.std.proofs.Common.{◌≡◌, ℕ, zero, suc, ◌+◌, ◌<◌, min, Bool, true, false, cond, ◌&&◌, eqb, ltb, List, [], ◌∷◌, length, get_or, Some, None, filter, Option, sym, refl, ap, ◌∙◌, arith}
use Rattle.std.specs.List.{slice_get, AllByRecursion}
use Rattle.std.proofs.lemmas.Option.{slice_get-get_or}
use Rattle.recency.specs.Blocks.{has, set_of}
use Rattle.task.specs.Blocks.{access_at, access_index}
use Rattle.task.specs.Contents.{TaskContents}
use Rattle.task.specs.Legal.{legal}
use Rattle.rowkinds.specs.Ages.{age_list}
use Rattle.rowkinds.specs.declared.ages.Ages.{Ages}
use Rattle.rowkinds.specs.Laws.{ages_laws}
use Rattle.conflicts.specs.Laws.{conflicts_laws}
use Rattle.widest.specs.Laws.{next_uses_laws}
use Rattle.widest.specs.NextUses.{count_list}
use Rattle.numbers.specs.Counts.{count_below, sum_below}
use Rattle.numbers.specs.Numbers.{evicting_in, if_evicting, is_reached_in, reached_in}
use Rattle.numbers.specs.Tests.{below, reached}
use Rattle.rowkinds.specs.BlockSets.{block_sets, filled_up}
use Rattle.tables.specs.Rows.{settled_rows, view_at}
use Rattle.tables.proofs.OwnNotes.{own_index}
use Rattle.tables.specs.Tables.{age_kind, blocks, conflict_kind, next_use_kind, settled_ages, settled_reuses, settled_conflicts, settled_widest, use_note}
use Rattle.ledger.specs.Ledger.{resilient_at}
use Rattle.soundness.specs.Flows.{counted_below, counted_in, enough, evictors, is_counted, resilient, reuse_at, widest_at}
use Rattle.flows.specs.Of.{findings_of, flow_of, index}
use Rattle.flows.proofs.Indexes.{has_at, index_at}
use Rattle.flows.proofs.Facts.{distinct_blocks_of, few_blocks, own_block, ages_settled, reuses_settled, conflicts_settled, widest_settled}
use Rattle.flows.proofs.Aging.{aged_row}
use Rattle.flows.proofs.Using.{widened_row}

count_first : (f : ℕ → Bool) (n : ℕ) → count_below f (suc n) ≡ cond (f 0) 1 0 + count_below (λ i. f (suc i)) n
count_first f zero = omega arith
count_first f (suc n) = let r = count_first f n in omega arith

count_same : (f g : ℕ → Bool) (n : ℕ) → ((i : ℕ) → i < n → f i ≡ g i) → count_below f n ≡ count_below g n
count_same f g zero h = refl
count_same f g (suc n) h = let r = count_same f g n (λ i l. h i (omega arith)) in let e = ap (λ b. cond {A = ℕ} b 1 0) (h n (omega arith)) in omega arith

-- counting indices that pass, or keeping elements that pass
count_kept : (f : ℕ → Bool) (xs : List ℕ) → count_below (λ i. f (get_or xs i 0)) (length xs) ≡ length (filter f xs)
count_kept f [] = refl
count_kept f (x ∷ xs) = count_first (λ i. f (get_or (x ∷ xs) i 0)) (length xs) ∙ go (f x) (count_kept f xs) where
  go : (v : Bool) → count_below (λ i. f (get_or xs i 0)) (length xs) ≡ length (filter f xs) → cond v 1 0 + count_below (λ i. f (get_or xs i 0)) (length xs) ≡ length (cond v (x ∷ filter f xs) (filter f xs))
  go true e = omega arith
  go false e = omega arith

all_or : {X : Type 0} (P : X → Type 0) (xs : List X) (i : ℕ) (d : X) → AllByRecursion P xs → P d → P (get_or xs i d)
all_or P [] i d h k = k
all_or P (x ∷ xs) zero d h k = h.0
all_or P (x ∷ xs) (suc i) d h k = all_or P xs i d h.1 k

and_assoc : (a b c : Bool) → ((a && b) && c) ≡ (a && (b && c))
and_assoc true b c = refl
and_assoc false b c = refl

reached_enough : (ways e : ℕ) (o : Option ℕ) → reached ways e o ≡ enough ways e o
reached_enough ways e None = refl
reached_enough ways e (Some w) = refl

module _ (t : TaskContents) (lawful : legal t ≡ true) where
  evicting_same : (s : ℕ) → evicting_in t s ≡ evictors (flow_of t) s
  evicting_same s = count_kept (λ b. eqb (set_of t.sets b) s) t.evicting

  below_at : (row : Ages) (i : ℕ) → length (age_list row) ≡ 64 → i < 64 → below t.ways (slice_get (age_list row) i) ≡ ltb (get_or (age_list row) i 0) t.ways
  below_at row i long l = ap (below t.ways) (slice_get-get_or (age_list row) i 0 (omega (arith, long, l)))

  module _ (p s i : ℕ) (h : i < length (blocks t)) where
    reached_same : is_reached_in t (view_at t (settled_rows t) p) s i ≡ is_counted (flow_of t) (findings_of t) p s (get_or (blocks t) i 0)
    reached_same =
        let bs = blocks t in
        let x = get_or bs i 0 in
        let F = flow_of t in
        let N = findings_of t in
        let few = few_blocks t lawful in
        let there : has x bs ≡ true = has_at bs i 0 h in
        let here : index x bs ≡ i = index_at bs i 0 (distinct_blocks_of t lawful) h in
        let A = age_kind t in
        let K = conflict_kind t in
        let W = next_use_kind t in
        let a = get_or (settled_ages t) p A.start in
        let r = get_or (settled_reuses t) p A.start in
        let c = get_or (settled_conflicts t) p K.start in
        let w = get_or (settled_widest t) p W.start in
        let o = access_at t.points p in
        let note = access_index bs o in
        let sets = filled_up 64 (block_sets t) in
        let laws = ages_laws t.ways (length bs) sets in
        let own_a = all_or A.own_row (settled_ages t) p A.start (ages_settled t lawful).1.own.own laws.start_own in
        let own_r = all_or A.own_row (settled_reuses t) p A.start (reuses_settled t lawful).1.own.own laws.start_own in
        let own_c = all_or K.own_row (settled_conflicts t) p K.start (conflicts_settled t lawful).1.own.own (conflicts_laws (length bs) sets).start_own in
        let own_w = all_or W.own_row (settled_widest t) p W.start (widest_settled t lawful).1.own.own (next_uses_laws (length bs)).start_own in
        let r' = A.advance r note in
        let w' = W.advance w (use_note c note) in
        let own_r' = laws.advance_own r note own_r (own_index bs o) in
        let owns : (b : ℕ) → o ≡ Some b → has b bs ≡ true = λ b f. own_block t lawful p b f in
        let l : i < 64 = omega (arith, few, h) in
        let inn = eqb (set_of t.sets x) s in
        let aged_is : below t.ways (slice_get (age_list a) i) ≡ ltb (N.age p x) t.ways = below_at a i own_a.0 l ∙ ap (λ k. ltb (get_or (age_list a) k 0) t.ways) (sym here) in
        let reuse_is : below t.ways (slice_get (age_list r') i) ≡ ltb (reuse_at F N p x) t.ways =
        below_at r' i own_r'.0 l ∙ ap (λ k. ltb (get_or (age_list r') k 0) t.ways) (sym here) ∙ ap (λ v. ltb v t.ways) (aged_row t lawful r own_r.0 o owns x there) in
        let widest_is : get_or (count_list w') i None ≡ widest_at F N p x = ap (λ k. get_or (count_list w') k None) (sym here) ∙ widened_row t lawful c own_c w own_w.0 o owns x there in
        let enough_is : reached t.ways (evicting_in t s) (get_or (count_list w') i None) ≡ enough t.ways (evictors F s) (widest_at F N p x) =
        reached_enough t.ways (evicting_in t s) (get_or (count_list w') i None) ∙ ap (enough t.ways (evicting_in t s)) widest_is ∙ ap (λ e. enough t.ways e (widest_at F N p x)) (evicting_same s) in
        ap (λ v. inn && ((v && below t.ways (slice_get (age_list r') i)) && reached t.ways (evicting_in t s) (get_or (count_list w') i None))) aged_is
        ∙ ap (λ v. inn && ((ltb (N.age p x) t.ways && v) && reached t.ways (evicting_in t s) (get_or (count_list w') i None))) reuse_is
        ∙ ap (λ v. inn && ((ltb (N.age p x) t.ways && ltb (reuse_at F N p x) t.ways) && v)) enough_is
        ∙ ap (λ v. inn && v) (and_assoc (ltb (N.age p x) t.ways) (ltb (reuse_at F N p x) t.ways) (enough t.ways (evictors F s) (widest_at F N p x)))

  set_same : (p s : ℕ) → if_evicting (evicting_in t s) (reached_in t (view_at t (settled_rows t) p) s) ≡ counted_in (flow_of t) (findings_of t) p s
  set_same p s =
      let F = flow_of t in
      let N = findings_of t in
      let v = view_at t (settled_rows t) p in
      let many = count_same (is_reached_in t v s) (λ i. is_counted F N p s (get_or (blocks t) i 0)) (length (blocks t)) (λ i l. reached_same p s i l) ∙ count_kept (is_counted F N p s) (blocks t) in
      ap (λ e. if_evicting e (reached_in t v s)) (evicting_same s) ∙ ap (λ n. if_evicting (evictors F s) (min t.ways n)) many

  sums_same : (p n : ℕ) → sum_below (λ s. if_evicting (evicting_in t s) (reached_in t (view_at t (settled_rows t) p) s)) n ≡ counted_below (flow_of t) (findings_of t) p n
  sums_same p zero = refl
  sums_same p (suc n) = ap (λ k. k + if_evicting (evicting_in t n) (reached_in t (view_at t (settled_rows t) p) n)) (sums_same p n) ∙ ap (λ k. counted_below (flow_of t) (findings_of t) p n + k) (set_same p n)

  pub same_resilient : (p : ℕ) → resilient_at t p ≡ resilient (flow_of t) (findings_of t) p
  same_resilient p = sums_same p t.sets
