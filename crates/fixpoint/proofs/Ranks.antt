-- Rounds that change something raise the ranks, so that they are few. Assumes nothing.
use Rattle.std.proofs.Common.{◌≡◌, ℕ, zero, suc, ◌+◌, ◌*◌, ◌<◌, ◌≤◌, List, [], ◌∷◌, length, sym, refl, ap, suc-mul, zero-mul, arith, below_more}
use native.Mathlib.Decide.{dec_le, dec_lt}
use Rattle.std.specs.List.{AllByRecursion}
use Rattle.fixpoint.specs.Kinds.{Meaning, Laws}
use Rattle.fixpoint.specs.Rounds.{Job, size, after_rounds}
use Rattle.fixpoint.proofs.Steps.{length_after_rounds}
use Rattle.fixpoint.proofs.Rising.{Under, after_rounds_own, rising}

-- the sum of the ranks
abbrev pub ranks : {Row Note : Type 0} → Meaning Row Note → List Row → ℕ
ranks M [] = 0
ranks M (x ∷ xs) = M.rank x + ranks M xs

module _ {Row Note : Type 0} (M : Meaning Row Note) (L : Laws M) where
  pub rank_le : (a b : Row) → M.own_row a → M.own_row b → M.at_or_before a b → M.rank a ≤ M.rank b
  rank_le a b oa ob u =
      elim (dec_le (M.rank a) (M.rank b)) [
        | yes h ↦ h
        | no h ↦ let l : M.rank a < M.rank b = L.rank_rises a b oa ob u (λ e. h (let q : M.rank a ≡ M.rank b = ap M.rank e in omega arith)) in omega arith
      ]

  pub ranks_bound : (xs : List Row) → AllByRecursion M.own_row xs → ranks M xs ≤ length xs * M.height
  ranks_bound [] h = simp zero-mul (omega arith)
  ranks_bound (x ∷ xs) h = let r = ranks_bound xs h.1 in let b = L.rank_within x h.0 in simp suc-mul (omega arith)

  pub ranks_le : (xs ys : List Row) → AllByRecursion M.own_row xs → AllByRecursion M.own_row ys → Under M xs ys → ranks M xs ≤ ranks M ys
  ranks_le [] [] h k u = omega arith
  ranks_le [] (y ∷ ys) h k u = absurd u
  ranks_le (x ∷ xs) [] h k u = absurd u
  ranks_le (x ∷ xs) (y ∷ ys) h k u = let r = ranks_le xs ys h.1 k.1 u.1 in let b = rank_le x y h.0 k.0 u.0 in omega arith

  -- equal ranks: not unequal tables
  ranks_same : (xs ys : List Row) → AllByRecursion M.own_row xs → AllByRecursion M.own_row ys → Under M xs ys → ranks M ys ≤ ranks M xs → (xs ≡ ys → ⊥) → ⊥
  ranks_same [] [] h k u r ne = ne refl
  ranks_same [] (y ∷ ys) h k u r ne = u
  ranks_same (x ∷ xs) [] h k u r ne = u
  ranks_same (x ∷ xs) (y ∷ ys) h k u r ne =
      let rs = ranks_le xs ys h.1 k.1 u.1 in
      let b = rank_le x y h.0 k.0 u.0 in
      ranks_same xs ys h.1 k.1 u.1 (omega arith) (λ e. let l : M.rank x < M.rank y = L.rank_rises x y h.0 k.0 u.0 (λ f. let whole : ◌≡◌ {A = List Row} (x ∷ xs) (y ∷ ys) = cc in ne whole) in omega arith)

  pub ranks_rise : (xs ys : List Row) → AllByRecursion M.own_row xs → AllByRecursion M.own_row ys → Under M xs ys → (xs ≡ ys → ⊥) → ranks M xs < ranks M ys
  ranks_rise xs ys h k u ne =
      elim (dec_lt (ranks M xs) (ranks M ys)) [
        | yes l ↦ l
        | no f ↦ absurd (ranks_same xs ys h k u (elim (dec_le (ranks M ys) (ranks M xs)) [ yes g ↦ g | no g ↦ absurd (f (omega arith)) ]) ne)
      ]

-- each of the first r rounds changed something
abbrev pub Moving : {Row Note : Type 0} → Meaning Row Note → Job Note → ℕ → Type 0
Moving M J r = (k : ℕ) → k < r → after_rounds M J (suc k) ≡ after_rounds M J k → ⊥

pub moving_more : {Row Note : Type 0} (M : Meaning Row Note) (J : Job Note) (r : ℕ) → Moving M J r → (after_rounds M J (suc r) ≡ after_rounds M J r → ⊥) → Moving M J (r + 1)
moving_more M J r m new = below_more _ r m new

module _ {Row Note : Type 0} (M : Meaning Row Note) (L : Laws M) (J : Job Note) (own_notes : AllByRecursion M.own_note J.notes) where
  climbed : (r : ℕ) → Moving M J r → r ≤ ranks M (after_rounds M J r)
  climbed zero m = omega arith
  climbed (suc r) m =
      let i = climbed r (λ k l. m k (omega arith)) in
      let up = ranks_rise M L (after_rounds M J r) (after_rounds M J (suc r)) (after_rounds_own M L J own_notes r) (after_rounds_own M L J own_notes (suc r)) (rising M L J own_notes r) (λ e. m r (omega arith) (sym e)) in
      omega arith

  pub few_rounds : (r : ℕ) → Moving M J r → r ≤ size J * M.height
  few_rounds r m =
      let i = climbed r m in
      let b : ranks M (after_rounds M J r) ≤ size J * M.height = rw length_after_rounds at (ranks_bound M L (after_rounds M J r) (after_rounds_own M L J own_notes r)) in
      omega arith
