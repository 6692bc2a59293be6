-- The merge over the inputs of a point is the least row at or beyond each advanced row. Assumes nothing.
use Rattle.std.proofs.Common.{◌≡◌, ℕ, zero, suc, ◌<◌, Bool, true, false, cond, List, sym, refl, ap, ◌∙◌, subst, arith}
use native.Mathlib.Decide.{dec_lt}
use Rattle.std.specs.List.{AllByRecursion}
use Rattle.fixpoint.specs.Kinds.{Meaning, Laws}
use Rattle.fixpoint.specs.Rounds.{Job, advanced, merged_below}
use Rattle.fixpoint.proofs.Steps.{feeds, merged_below_more}
use Rattle.fixpoint.proofs.Rising.{advanced_own, merged_below_own}

module _ {Row Note : Type 0} (M : Meaning Row Note) (L : Laws M) (J : Job Note) (own_notes : AllByRecursion M.own_note J.notes) (xs : List Row) (own : AllByRecursion M.own_row xs) (p : ℕ) where
  pub merged_below_least : (k : ℕ) (c : Row) → M.own_row c → ((q : ℕ) → q < k → feeds J p q ≡ true → M.at_or_before (advanced M J xs J.notes q) c) → M.at_or_before (merged_below M J xs p k) c
  unfolding merged_below
  merged_below_least zero c o h = L.start_least c o
  merged_below_least (suc k) c o h =
      let below = merged_below_least k c o (λ q l. h q (omega arith)) in
      let here : (b : Bool) → feeds J p k ≡ b → M.at_or_before (cond b (M.merge (merged_below M J xs p k) (advanced M J xs J.notes k)) (merged_below M J xs p k)) c =
      λ b. elim b as (λ v. feeds J p k ≡ v → M.at_or_before (cond v (M.merge (merged_below M J xs p k) (advanced M J xs J.notes k)) (merged_below M J xs p k)) c) [
        | true ↦ λ e. L.merge_least _ _ c (merged_below_own M L J own_notes xs p k own) (advanced_own M L J xs J.notes k own own_notes) o below (h k (omega arith) e)
        | false ↦ λ e. below
      ] in
      here (feeds J p k) refl

  pub merged_below_upper : (k q : ℕ) → q < k → feeds J p q ≡ true → M.at_or_before (advanced M J xs J.notes q) (merged_below M J xs p k)
  merged_below_upper zero q l e = absurd (omega arith)
  merged_below_upper (suc k) q l e =
      let g = merged_below_own M L J own_notes xs p k own in
      let s = advanced_own M L J xs J.notes q own own_notes in
      let t = advanced_own M L J xs J.notes k own own_notes in
      let P : Row → Type 0 = λ r. M.at_or_before (advanced M J xs J.notes q) r in
      elim (dec_lt q k) [
        | yes m ↦
            let up = merged_below_upper k q m e in
            let at : (b : Bool) → P (cond b (M.merge (merged_below M J xs p k) (advanced M J xs J.notes k)) (merged_below M J xs p k)) =
            λ b. elim b as (λ v. P (cond v (M.merge (merged_below M J xs p k) (advanced M J xs J.notes k)) (merged_below M J xs p k))) [
              | true ↦ L.transitive _ _ _ s g (L.merge_own _ _ g t) up (L.merge_left _ _ g t)
              | false ↦ up
            ] in
            subst P (sym (merged_below_more M J xs p k)) (at (feeds J p k))
        | no f ↦
            let same : q ≡ k = omega arith in
            let fed : feeds J p k ≡ true = ap (feeds J p) (sym same) ∙ e in
            let top : M.at_or_before (advanced M J xs J.notes k) (M.merge (merged_below M J xs p k) (advanced M J xs J.notes k)) = L.merge_right _ _ g t in
            let whole : merged_below M J xs p (suc k) ≡ M.merge (merged_below M J xs p k) (advanced M J xs J.notes k) = merged_below_more M J xs p k ∙ ap (λ b. cond b (M.merge (merged_below M J xs p k) (advanced M J xs J.notes k)) (merged_below M J xs p k)) fed in
            subst P (sym whole) (subst (λ (j : ℕ). M.at_or_before (advanced M J xs J.notes j) (M.merge (merged_below M J xs p k) (advanced M J xs J.notes k))) (sym same) top)
      ]
