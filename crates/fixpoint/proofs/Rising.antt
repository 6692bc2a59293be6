-- What the laws give of rounds: they keep own rows and the order, and rise. Assumes nothing.
use Rattle.std.proofs.Common.{◌≡◌, ℕ, zero, suc, ◌<◌, true, false, cond, List, [], ◌∷◌, length, get_or, set, replicate, sym, refl, ap, ◌∙◌, subst, arith}
use lib.Seq.{set-get_or}
use Rattle.std.specs.List.{AllZip, AllByRecursion}
use Rattle.std.proofs.ByRecursion.{All-set}
use Rattle.fixpoint.specs.Kinds.{Meaning, Laws}
use Rattle.fixpoint.specs.Rounds.{Job, size, advanced, merged_below, visits, round, all_start, after_rounds}
use Rattle.fixpoint.specs.Settled.{MeetsTheRules}
use Rattle.fixpoint.proofs.Steps.{feeds, place, visited, length_after_rounds}

-- row for row at or before
abbrev pub Under : {Row Note : Type 0} → Meaning Row Note → List Row → List Row → Type 0
Under M xs ys = AllZip M.at_or_before xs ys

module _ {Row Note : Type 0} (M : Meaning Row Note) (L : Laws M) where
  pub merged_under : (a b c d : Row) → M.own_row a → M.own_row b → M.own_row c → M.own_row d → M.at_or_before a c → M.at_or_before b d → M.at_or_before (M.merge a b) (M.merge c d)
  merged_under a b c d oa ob oc od h k =
      let m = L.merge_own c d oc od in
      L.merge_least a b (M.merge c d) oa ob m
      (L.transitive a c (M.merge c d) oa oc m h (L.merge_left c d oc od))
      (L.transitive b d (M.merge c d) ob od m k (L.merge_right c d oc od))

  pub advanced_own : (J : Job Note) (xs : List Row) (notes : List Note) (q : ℕ) → AllByRecursion M.own_row xs → AllByRecursion M.own_note notes → M.own_row (advanced M J xs notes q)
  advanced_own J [] notes q h k = L.start_own
  advanced_own J (x ∷ xs) [] q h k = L.start_own
  advanced_own J (x ∷ xs) (m ∷ notes) zero h k = L.advance_own x m h.0 k.0
  advanced_own J (x ∷ xs) (m ∷ notes) (suc q) h k = advanced_own J xs notes q h.1 k.1

  pub advanced_under : (J : Job Note) (xs ys : List Row) (notes : List Note) (q : ℕ) → AllByRecursion M.own_row xs → AllByRecursion M.own_row ys → AllByRecursion M.own_note notes → Under M xs ys → M.at_or_before (advanced M J xs notes q) (advanced M J ys notes q)
  advanced_under J [] [] notes q h k f u = L.reflexive M.start L.start_own
  advanced_under J [] (y ∷ ys) notes q h k f u = absurd u
  advanced_under J (x ∷ xs) [] notes q h k f u = absurd u
  advanced_under J (x ∷ xs) (y ∷ ys) [] q h k f u = L.reflexive M.start L.start_own
  advanced_under J (x ∷ xs) (y ∷ ys) (m ∷ notes) zero h k f u = L.advance_keeps_order x y m h.0 k.0 f.0 u.0
  advanced_under J (x ∷ xs) (y ∷ ys) (m ∷ notes) (suc q) h k f u = advanced_under J xs ys notes q h.1 k.1 f.1 u.1

  pub under_set : (xs ys : List Row) (i : ℕ) (x y : Row) → Under M xs ys → M.at_or_before x y → Under M (set xs i x) (set ys i y)
  under_set [] [] i x y u h = tt
  under_set [] (b ∷ ys) i x y u h = absurd u
  under_set (a ∷ xs) [] i x y u h = absurd u
  under_set (a ∷ xs) (b ∷ ys) zero x y u h = (h, u.1)
  under_set (a ∷ xs) (b ∷ ys) (suc i) x y u h = (u.0, under_set xs ys i x y u.1 h)

  pub under_at : (xs ys : List Row) (i : ℕ) → Under M xs ys → M.at_or_before (get_or xs i M.start) (get_or ys i M.start)
  under_at [] [] i u = L.reflexive M.start L.start_own
  under_at [] (y ∷ ys) i u = absurd u
  under_at (x ∷ xs) [] i u = absurd u
  under_at (x ∷ xs) (y ∷ ys) zero u = u.0
  under_at (x ∷ xs) (y ∷ ys) (suc i) u = under_at xs ys i u.1

  pub all_start_own : (n : ℕ) → AllByRecursion M.own_row (replicate n M.start)
  all_start_own zero = tt
  all_start_own (suc n) = (L.start_own, all_start_own n)

  pub all_start_under : (xs : List Row) → AllByRecursion M.own_row xs → Under M (replicate (length xs) M.start) xs
  all_start_under [] h = tt
  all_start_under (x ∷ xs) h = (L.start_least x h.0, all_start_under xs h.1)

  module _ (J : Job Note) (own_notes : AllByRecursion M.own_note J.notes) where
    pub merged_below_own : (xs : List Row) (p k : ℕ) → AllByRecursion M.own_row xs → M.own_row (merged_below M J xs p k)
    unfolding merged_below
    merged_below_own xs p zero h = L.start_own
    merged_below_own xs p (suc k) h =
        let g = merged_below_own xs p k h in
        elim (feeds J p k) as (λ b. M.own_row (cond b (M.merge (merged_below M J xs p k) (advanced M J xs J.notes k)) (merged_below M J xs p k))) [
          | true ↦ L.merge_own _ _ g (advanced_own J xs J.notes k h own_notes)
          | false ↦ g
        ]

    pub merged_below_under : (xs ys : List Row) (p k : ℕ) → AllByRecursion M.own_row xs → AllByRecursion M.own_row ys → Under M xs ys → M.at_or_before (merged_below M J xs p k) (merged_below M J ys p k)
    unfolding merged_below
    merged_below_under xs ys p zero h k u = L.reflexive M.start L.start_own
    merged_below_under xs ys p (suc q) h k u =
        let g = merged_below_under xs ys p q h k u in
        elim (feeds J p q) as (λ b. M.at_or_before (cond b (M.merge (merged_below M J xs p q) (advanced M J xs J.notes q)) (merged_below M J xs p q)) (cond b (M.merge (merged_below M J ys p q) (advanced M J ys J.notes q)) (merged_below M J ys p q))) [
          | true ↦ merged_under _ _ _ _ (merged_below_own xs p q h) (advanced_own J xs J.notes q h own_notes) (merged_below_own ys p q k) (advanced_own J ys J.notes q k own_notes) g (advanced_under J xs ys J.notes q h k own_notes u)
          | false ↦ g
        ]

    pub visits_own : (xs : List Row) (k : ℕ) → AllByRecursion M.own_row xs → AllByRecursion M.own_row (visits M J k xs)
    unfolding visits
    visits_own xs zero h = h
    visits_own xs (suc k) h = let o = visits_own xs k h in All-set M.own_row (visits M J k xs) (place J k) _ (merged_below_own (visits M J k xs) (place J k) (size J) o) o

    pub visits_under : (xs ys : List Row) (k : ℕ) → AllByRecursion M.own_row xs → AllByRecursion M.own_row ys → Under M xs ys → Under M (visits M J k xs) (visits M J k ys)
    unfolding visits
    visits_under xs ys zero h o u = u
    visits_under xs ys (suc k) h o u =
        let w = visits_under xs ys k h o u in
        under_set (visits M J k xs) (visits M J k ys) (place J k) _ _ w (merged_below_under (visits M J k xs) (visits M J k ys) (place J k) (size J) (visits_own xs k h) (visits_own ys k o) w)

    pub after_rounds_own : (k : ℕ) → AllByRecursion M.own_row (after_rounds M J k)
    unfolding after_rounds
    after_rounds_own zero = all_start_own (size J)
    after_rounds_own (suc k) = visits_own (after_rounds M J k) (size J) (after_rounds_own k)

    -- the rounds ascend
    pub rising : (k : ℕ) → Under M (after_rounds M J k) (after_rounds M J (suc k))
    unfolding after_rounds
    rising zero =
        let o = visits_own (all_start M J) (size J) (all_start_own (size J)) in
        let n : length (round M J (all_start M J)) ≡ size J = length_after_rounds M J 1 in
        let P : ℕ → Type 0 = λ m. Under M (replicate m M.start) (round M J (all_start M J)) in
        subst P n (all_start_under (round M J (all_start M J)) o)
    rising (suc k) = visits_under (after_rounds M J k) (after_rounds M J (suc k)) (size J) (after_rounds_own k) (after_rounds_own (suc k)) (rising k)

    -- what meets the rules is unchanged by a visit
    pub visits_fixed : (xs : List Row) (k : ℕ) → MeetsTheRules M J xs → ((i : ℕ) → i < k → place J i < size J) → visits M J k xs ≡ xs
    unfolding visits
    visits_fixed xs zero m h = refl
    visits_fixed xs (suc k) m h =
        let e = visits_fixed xs k m (λ i l. h i (omega arith)) in
        let P : List Row → Type 0 = λ ys. visited M J ys (place J k) ≡ xs in
        subst P (sym e) (ap (set xs (place J k)) (sym (m (place J k) (h k (omega arith)))) ∙ set-get_or xs (place J k) M.start)

    -- no table that meets the rules lies below
    pub below : (ys : List Row) (k : ℕ) → length ys ≡ size J → AllByRecursion M.own_row ys → MeetsTheRules M J ys → ((i : ℕ) → i < size J → place J i < size J) → Under M (after_rounds M J k) ys
    unfolding after_rounds
    below ys zero n o m h = let P : ℕ → Type 0 = λ j. Under M (replicate j M.start) ys in subst P n (all_start_under ys o)
    below ys (suc k) n o m h =
        let P : List Row → Type 0 = λ zs. Under M (round M J (after_rounds M J k)) zs in
        subst P (visits_fixed ys (size J) m h) (visits_under (after_rounds M J k) ys (size J) (after_rounds_own k) o (below ys k n o m h))
