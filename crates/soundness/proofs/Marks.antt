-- The blocks that an interruption marks are no more than the resilient number of its point. Assumes nothing.
use Rattle.std.proofs.Common.{◌≡◌, ℕ, zero, suc, ◌+◌, ◌<◌, ◌≤◌, min, Bool, true, false, cond, eqb, ltb, List, [], ◌∷◌, ◌++◌, length, take, Some, None, filter, Option, refl, ap, ◌∙◌, subst, ⊎_elim, arith, length-append, length-take}
use Rattle.std.proofs.lemmas.Bool.{cases_eq, or_cases, or_left, or_right, and_from, eq-eqb, eqb-true, lt-ltb, le-leb}
use Rattle.recency.specs.Blocks.{has, set_of}
use Rattle.recency.specs.Recency.{front}
use Rattle.recency.proofs.Steps.{take_distinct}
use Rattle.soundness.specs.Flows.{Flow, Findings, AtMost, evictors, enough, reuse_at, widest_at, is_counted, counted_in, counted_below}
use Rattle.soundness.proofs.Moved.{In, Distinct, in_none, not_in, distinct_parts, distinct_from, front_distinct, distinct_length, take_in, in_take}
use Rattle.soundness.proofs.Walks.{Good, in_left, in_right, in_kept}
use Rattle.soundness.proofs.Reuses.{Reused}

-- a kept block passed the test
kept_in : (test : ℕ → Bool) (y : ℕ) (xs : List ℕ) → In y (filter test xs) → In y xs × (test y ≡ true)
kept_in test y [] h = in_none y h
kept_in test y (x ∷ xs) h = go (test x) refl h (kept_in test y xs) where
  go : (t : Bool) → test x ≡ t → In y (cond t (x ∷ filter test xs) (filter test xs)) → (In y (filter test xs) → In y xs × (test y ≡ true)) →
      In y (x ∷ xs) × (test y ≡ true)
  go true e i ih =
      ⊎_elim
      (λ (z : eqb y x ≡ true). (or_left (eqb y x) (has y xs) z, ap test (eqb-true y x z) ∙ e))
      (λ (z : In y (filter test xs)). (or_right (eqb y x) (has y xs) (ih z).0, (ih z).1))
      (or_cases (eqb y x) (has y (filter test xs)) i)
  go false e i ih = (or_right (eqb y x) (has y xs) (ih i).0, (ih i).1)

kept_distinct : (test : ℕ → Bool) (xs : List ℕ) → Distinct xs → Distinct (filter test xs)
kept_distinct test [] d = refl
kept_distinct test (x ∷ xs) d = let parts = distinct_parts x xs d in go (test x) parts.0 (kept_distinct test xs parts.1) where
  go : (t : Bool) → has x xs ≡ false → Distinct (filter test xs) → Distinct (cond t (x ∷ filter test xs) (filter test xs))
  go true out ih = distinct_from x (filter test xs) (not_in x (filter test xs) xs (λ y i. (kept_in test y xs i).0) out) ih
  go false out ih = ih

kept_length : (test : ℕ → Bool) (xs : List ℕ) → length (filter test xs) ≤ length xs
kept_length test [] = omega arith
kept_length test (x ∷ xs) = go (test x) (kept_length test xs) where
  go : (t : Bool) → length (filter test xs) ≤ length xs → length (cond t (x ∷ filter test xs) (filter test xs)) ≤ suc (length xs)
  go true ih = omega arith
  go false ih = omega arith

suffices : (ways e n : ℕ) (o : Option ℕ) → ways ≤ n + e → AtMost (Some n) o → enough ways e o ≡ true
suffices ways e n None h r = absurd r
suffices ways e n (Some w) h r = le-leb ways (w + e) (omega arith)

module _ (F : Flow) (N : Findings) (p : ℕ) where
  -- the marks of set s, whose plain list without limit is l: the blocks of the plain list that are counted
  abbrev pub marks_of : ℕ → List ℕ → List ℕ
  marks_of s l = cond (ltb 0 (evictors F s)) (filter (is_counted F N p s) (take F.ways l)) []

  abbrev pub marks_below : (ℕ → List ℕ) → ℕ → List ℕ
  marks_below P zero = []
  marks_below P (suc n) = marks_of n (P n) ++ marks_below P n

  few_of : (s : ℕ) (l m : List ℕ) → Good F N p s l m → length (marks_of s l) ≤ counted_in F N p s
  few_of s l m g = go (ltb 0 (evictors F s)) where
    go : (t : Bool) → length (cond t (filter (is_counted F N p s) (take F.ways l)) []) ≤
        cond t (min F.ways (length (filter (is_counted F N p s) F.blocks))) 0
    go true =
        let test = is_counted F N p s in
        let cut = take F.ways l in
        let no_more = kept_length test cut in
        let limit = length-take F.ways l in
        let own =
        distinct_length (filter test cut) (filter test F.blocks)
        (kept_distinct test cut (take_distinct F.ways l g.plain_distinct))
        (λ y i. let k = kept_in test y cut i in in_kept test y F.blocks (g.own y (take_in F.ways y l k.0).0).1 k.1) in
        omega arith
    go false = omega arith

  pub few_marks : (P Q : ℕ → List ℕ) → ((s : ℕ) → Good F N p s (P s) (Q s)) → (n : ℕ) → length (marks_below P n) ≤ counted_below F N p n
  few_marks P Q g zero = omega arith
  few_marks P Q g (suc n) = omega (arith, length-append (marks_of n (P n)) (marks_below P n), few_of n (P n) (Q n) (g n), few_marks P Q g n)

  below : (P : ℕ → List ℕ) (n s b : ℕ) → s < n → In b (marks_of s (P s)) → In b (marks_below P n)
  below P zero s b h i = absurd (omega arith)
  below P (suc n) s b h i =
      ⊎_elim
      (λ (e : s ≡ n). in_left b (marks_of n (P n)) (marks_below P n) (subst (λ v. In b (marks_of v (P v))) e i))
      (λ (e : s ≡ n → ⊥). in_right b (marks_of n (P n)) (marks_below P n) (below P n s b (omega arith) i))
      (cases_eq s n)

  -- a block that is used again is marked
  pub marked : (P : ℕ → List ℕ) (s b : ℕ) (m : List ℕ) → s < F.sets → set_of F.sets b ≡ s → Good F N p s (P s) m → In b (P s) →
      Reused F N p s b (P s) → In b (marks_below P F.sets)
  marked P s b m low its_set g i r =
      let front_short = distinct_length (front b (P s)) r.between (front_distinct b (P s) g.plain_distinct) r.before in
      let ahead_short = distinct_length (front b r.coming) r.between (front_distinct b r.coming r.apart) r.ahead in
      let young : N.age p b < F.ways = omega (arith, g.ages b i, front_short, r.short) in
      let soon : reuse_at F N p b < F.ways = omega (arith, r.reuses b r.comes, ahead_short, r.short) in
      let some : 0 < evictors F s = omega (arith, r.short, r.over) in
      let there : In b (take F.ways (P s)) = in_take F.ways b (P s) i (omega (arith, front_short, r.short)) in
      let test : is_counted F N p s b ≡ true =
      and_from (eqb (set_of F.sets b) s) _ (eq-eqb (set_of F.sets b) s its_set)
      (and_from (ltb (N.age p b) F.ways) _ (lt-ltb (N.age p b) F.ways young)
      (and_from (ltb (reuse_at F N p b) F.ways) _ (lt-ltb (reuse_at F N p b) F.ways soon)
      (suffices F.ways (evictors F s) (length r.between) (widest_at F N p b) r.over r.wide))) in
      below P F.sets s b low (rw (lt-ltb 0 (evictors F s) some) (in_kept (is_counted F N p s) b (take F.ways (P s)) there test))
