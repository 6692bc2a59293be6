-- A round that changes nothing, and how the code sees that. Assumes nothing.
use Rattle.std.proofs.Common.{◌≡◌, ℕ, zero, suc, ◌+◌, ◌-◌, ◌<◌, ◌≤◌, Bool, true, false, not, ◌||◌, ◌≢◌, ◌⊎◌, List, length, get_or, set, sym, refl, ap, ◌∙◌, subst, inl, inr, ⊎_elim, add-one, arith, get_or-set_other, get_or-set_same}
use lib.Seq.{set-get_or}
use Rattle.fixpoint.specs.Kinds.{Meaning}
use Rattle.fixpoint.specs.Graph.{visited_at}
use Rattle.fixpoint.specs.Rounds.{Job, size, merged_below, visits, round}
use Rattle.fixpoint.specs.Settled.{MeetsTheRules}
use Rattle.fixpoint.specs.declared.direction.Direction.{Direction}
use Rattle.fixpoint.specs.declared.direction.Direction.TheVariants.{Forward, Backward}
use Rattle.fixpoint.proofs.Steps.{place, visited, visits_none, visits_more, length_visits}

-- visits past p's leave its row
pub visits_later : {Row Note : Type 0} (M : Meaning Row Note) (J : Job Note) (xs : List Row) (p i k : ℕ) (d : Row) → ((j : ℕ) → i ≤ j → j < i + k → place J j ≡ p → ⊥) → get_or (visits M J (i + k) xs) p d ≡ get_or (visits M J i xs) p d
visits_later M J xs p i zero d h = ap (λ (j : ℕ). get_or (visits M J j xs) p d) (omega arith)
visits_later {Row} M J xs p i (suc k) d h =
    let e : i + suc k ≡ suc (i + k) = omega arith in
    let ne : p ≢ place J (i + k) = λ q. h (i + k) (omega arith) (omega arith) (sym q) in
    ap (λ (j : ℕ). get_or (visits M J j xs) p d) e
    ∙ ap (λ (zs : List Row). get_or zs p d) (visits_more M J xs (i + k))
    ∙ get_or-set_other (visits M J (i + k) xs) (place J (i + k)) p _ d ne
    ∙ visits_later M J xs p i k d (λ j l m. h j l (omega arith))

-- each point once: `place` is its own inverse
pub record Turns (n : ℕ) (place : ℕ → ℕ) : Type 0 where
  pub inside : (k : ℕ) → k < n → place k < n
  pub back : (k : ℕ) → k < n → place (place k) ≡ k

pub turned : (direction : Direction) (n : ℕ) → Turns n (visited_at direction n)
turned Forward n = record { inside = λ k h. h; back = λ k h. refl }
turned Backward n = record { inside = λ k h. omega arith; back = λ k h. omega arith }

module _ {Row Note : Type 0} (M : Meaning Row Note) (J : Job Note) (turns : Turns (size J) (place J)) where
  other_place : (i j : ℕ) → i < size J → j < size J → i < j → place J j ≡ place J i → ⊥
  other_place i j hi hj l e =
      let b = turns.back i hi in
      let c = turns.back j hj in
      let q : j ≡ i = sym c ∙ ap (place J) e ∙ b in
      omega arith

  -- after the round, the point that was visited k-th has what that visit gave it
  pub round_at : (xs : List Row) (k : ℕ) (d : Row) → length xs ≡ size J → k < size J → get_or (round M J xs) (place J k) d ≡ merged_below M J (visits M J k xs) (place J k) (size J)
  round_at xs k d n h =
      let e : size J ≡ suc k + (size J - suc k) = omega arith in
      let inside : place J k < length (visits M J k xs) = simp length_visits (subst (λ (m : ℕ). place J k < m) (sym n) (turns.inside k h)) in
      ap (λ (m : ℕ). get_or (visits M J m xs) (place J k) d) e
      ∙ visits_later M J xs (place J k) (suc k) (size J - suc k) d (λ j l m q. other_place k j h (omega arith) (omega arith) q)
      ∙ ap (λ (zs : List Row). get_or zs (place J k) d) (visits_more M J xs k)
      ∙ get_or-set_same (visits M J k xs) (place J k) _ d inside

  -- a round that leaves the table as it was has left it so at each visit
  pub visits_still : (xs : List Row) (k : ℕ) → length xs ≡ size J → round M J xs ≡ xs → k ≤ size J → visits M J k xs ≡ xs
  visits_still xs zero n e h = visits_none M J xs
  visits_still xs (suc k) n e h =
      let still = visits_still xs k n e (omega arith) in
      let l : k < size J = omega arith in
      let was = round_at xs k M.start n l in
      let same : merged_below M J (visits M J k xs) (place J k) (size J) ≡ get_or xs (place J k) M.start = sym was ∙ ap (λ (zs : List Row). get_or zs (place J k) M.start) e in
      visits_more M J xs k ∙ ap (set (visits M J k xs) (place J k)) same ∙ ap (λ (zs : List Row). set zs (place J k) (get_or xs (place J k) M.start)) still ∙ set-get_or xs (place J k) M.start

  pub still_meets : (xs : List Row) → length xs ≡ size J → round M J xs ≡ xs → MeetsTheRules M J xs
  still_meets xs n e p h =
      let k = place J p in
      let l : k < size J = turns.inside p h in
      let back : place J k ≡ p = turns.back p h in
      let was = round_at xs k M.start n l in
      let P : ℕ → Type 0 = λ q. get_or xs q M.start ≡ merged_below M J xs q (size J) in
      subst P back
      (ap (λ (zs : List Row). get_or zs (place J k) M.start) (sym e) ∙ was ∙ ap (λ (zs : List Row). merged_below M J zs (place J k) (size J)) (visits_still xs k n e (omega arith)))

-- changed before, or not kept now
or_false : (b c : Bool) → (b || not c) ≡ false → (b ≡ false) × (c ≡ true)
or_false true c e = let z : ◌≡◌ {A = ℕ} 0 1 = cc in absurd (omega arith)
or_false false true e = (refl, refl)
or_false false false e = let z : ◌≡◌ {A = ℕ} 0 1 = cc in absurd (omega arith)

or_true : (b c : Bool) → (b || not c) ≡ true → (b ≡ true) ⊎ (c ≡ false)
or_true true c e = inl refl
or_true false true e = let z : ◌≡◌ {A = ℕ} 0 1 = cc in absurd (omega arith)
or_true false false e = inr refl

-- how far a round has come: k visits from xs have made rows, and b says whether one of them changed something
abbrev pub Along : {Row Note : Type 0} → Meaning Row Note → Job Note → List Row → List Row → ℕ → Bool → Type 0
Along M J xs rows k b = (rows ≡ visits M J k xs) × (b ≡ false → rows ≡ xs) × (b ≡ true → round M J xs ≡ xs → ⊥)

pub along_none : {Row Note : Type 0} (M : Meaning Row Note) (J : Job Note) (xs : List Row) → Along M J xs xs 0 false
along_none M J xs = (sym (visits_none M J xs), λ _. refl, λ e. let z : ◌≡◌ {A = ℕ} 0 1 = cc in absurd (omega arith))

pub along_more : {Row Note : Type 0} (M : Meaning Row Note) (J : Job Note) → Turns (size J) (place J) → (xs rows : List Row) (k p : ℕ) (b kept : Bool) (new d : Row) → length xs ≡ size J → k < size J → Along M J xs rows k b → p ≡ place J k → new ≡ merged_below M J rows p (size J) → (kept ≡ true → get_or rows p d ≡ new) → (get_or rows p d ≡ new → kept ≡ true) → Along M J xs (set rows p new) (k + 1) (b || not kept)
along_more {Row} M J turns xs rows k p b kept new d n l a e made same other = (
  ap (set rows p) made ∙ ap (λ (zs : List Row). visited M J zs p) a.0 ∙ ap (visited M J (visits M J k xs)) e ∙ sym (visits_more M J xs k) ∙ ap (λ j. visits M J j xs) (sym (add-one k)),
  λ f. let o = or_false b kept f in ap (set rows p) (sym (same o.1)) ∙ set-get_or rows p d ∙ a.1 o.0,
  λ t still. ⊎_elim
      (λ was. a.2 was still)
      (λ not-kept.
      let here : visits M J k xs ≡ xs = visits_still M J turns xs k n still (omega arith) in
      let at : get_or xs p d ≡ get_or (round M J xs) (place J k) d = ap (λ (q : ℕ). get_or xs q d) e ∙ ap (λ (zs : List Row). get_or zs (place J k) d) (sym still) in
      let gave : merged_below M J (visits M J k xs) (place J k) (size J) ≡ new = ap (λ (zs : List Row). merged_below M J zs (place J k) (size J)) (sym a.0) ∙ ap (λ (q : ℕ). merged_below M J rows q (size J)) (sym e) ∙ sym made in
      let equal : get_or rows p d ≡ new = ap (λ (zs : List Row). get_or zs p d) (a.0 ∙ here) ∙ at ∙ round_at M J turns xs k d n l ∙ gave in
      let k₁ = other equal in
      let z : ◌≡◌ {A = ℕ} 0 1 = cc in omega arith)
      (or_true b kept t),
)
