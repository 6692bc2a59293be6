-- A table that a round leaves as it is, and that only rounds with changes led to, is settled. Assumes nothing.
use Rattle.std.proofs.Common.{◌≡◌, ℕ, suc, ◌<◌, List, length, get_or, sym, ap, ◌∙◌, subst, arith}
use Rattle.std.specs.List.{AllByRecursion}
use Rattle.fixpoint.specs.Kinds.{Meaning, Laws}
use Rattle.fixpoint.specs.Rounds.{Job, size, advanced, after_rounds}
use Rattle.fixpoint.specs.Settled.{MeetsTheRules, JoinsItsInputs, Settled}
use Rattle.fixpoint.proofs.Steps.{length_after_rounds, after_rounds_more}
use Rattle.fixpoint.proofs.Rising.{under_at, after_rounds_own, below}
use Rattle.fixpoint.proofs.Idle.{still_meets, turned}
use Rattle.fixpoint.proofs.Joining.{merged_below_least, merged_below_upper}
use Rattle.fixpoint.proofs.Ranks.{Moving, few_rounds}

module _ {Row Note : Type 0} (M : Meaning Row Note) (L : Laws M) (J : Job Note) (own_notes : AllByRecursion M.own_note J.notes) where
  joins : (rows : List Row) → AllByRecursion M.own_row rows → MeetsTheRules M J rows → (p : ℕ) → p < size J → JoinsItsInputs M J rows p
  joins rows own meets p h = record {
    beyond = λ q l e. subst (M.at_or_before (advanced M J rows J.notes q)) (sym (meets p h)) (merged_below_upper M L J own_notes rows own p (size J) q l e);
    least = λ c o under. subst (λ (r : Row). M.at_or_before r c) (sym (meets p h)) (merged_below_least M L J own_notes rows own p (size J) c o under);
  }

  -- after r rounds with a change and one without
  pub settled : (r : ℕ) (rows : List Row) → Moving M J r → rows ≡ after_rounds M J (suc r) → after_rounds M J (suc r) ≡ after_rounds M J r → Settled M J (suc r) rows
  settled r rows moving e idle =
      let turns = turned J.direction (size J) in
      let here : after_rounds M J r ≡ rows = sym (e ∙ idle) in
      let meets : MeetsTheRules M J rows = subst (MeetsTheRules M J) here (still_meets M J turns (after_rounds M J r) (length_after_rounds M J r) (sym (after_rounds_more M J r) ∙ idle)) in
      let own : AllByRecursion M.own_row rows = subst (AllByRecursion M.own_row) here (after_rounds_own M L J own_notes r) in
      let b = few_rounds M L J own_notes r moving in
      record {
        some = omega arith;
        last_idle = λ k q. let p : k ≡ r = omega arith in subst (λ (j : ℕ). after_rounds M J (suc j) ≡ after_rounds M J j) (sym p) idle;
        earlier_not = λ k l. moving k (omega arith);
        few = omega arith;
        own = record { long = ap length e ∙ length_after_rounds M J (suc r); own = own };
        meets = meets;
        joins = joins rows own meets;
        least = λ other o m p l. subst (λ (xs : List Row). M.at_or_before (get_or xs p M.start) (get_or other p M.start)) here (under_at M L (after_rounds M J r) other p (below M L J own_notes other r o.long o.own m turns.inside));
      }
