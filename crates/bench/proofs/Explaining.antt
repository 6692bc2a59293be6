-- A call whose state some history explains leaves a state that a longer history explains. Assumes nothing.
use Rattle.std.proofs.Common.{◌≡◌, ℕ, Bool, true, List, ◌∷◌, Some, None, Ok, Err, Option, Result, sym, ap, ◌∙◌, subst}
use Rattle.recency.specs.Blocks.{has}
use Rattle.recency.specs.Rows.{list_of, row_step}
use Rattle.task.specs.Legal.{legal}
use Rattle.cache.specs.Outcomes.{outcome_of}
use Rattle.cache.specs.declared.Cache.{Ghosts}
use Rattle.ledger.specs.Ledger.{Setting, Ledger, accessed, after, block_of, cause, row_moved, unless_refused}
use Rattle.ledger.specs.Histories.{HitsWhatTheRowHas, LoadsWithin, row_after}
use Rattle.ledger.specs.declared.Call.{Call}
use Rattle.flows.proofs.Bound.{loads_are_bounded}
use Rattle.bench.specs.Benches.{Accesses, Called, Explained, Says, said_hit}
use Rattle.bench.specs.declared.answer.Answer.{Answer}
use Rattle.bench.specs.declared.answer.Answer.TheVariants.{Access}
use Rattle.bench.specs.declared.fault.BenchFault.{BenchFault}

-- an access that is told as a hit where the block was held
told_hit : (held : Bool) (a : Answer) → a ≡ Access (outcome_of held) → held ≡ true → said_hit (Ok a) ≡ true
told_hit held a e h = ap (λ x. said_hit (Ok x)) e ∙ ap (λ t. said_hit (Ok (Access (outcome_of t)))) h

module _ {C : Type 0} (g : Ghosts C)
    (held : (c : C) (row : List (List ℕ)) (b : ℕ) → g.vouches c row → has b (list_of (g.sets c) b row) ≡ true → g.holds c b ≡ true) where
  module _ (S : Setting) (c : C) (row : List (List ℕ)) (vouched : g.vouches c row) (same_sets : g.sets c ≡ S.sets) (same_life : g.life c ≡ S.life) where
    -- what the row has, the call was told to hit
    honest_call : (o : Option ℕ) (b : Option ℕ) (call : Call) (r : Result Answer BenchFault) → Says o (unless_refused o b None) call (g.holds c) r →
        HitsWhatTheRowHas S (unless_refused o b None) (said_hit r) row
    honest_call (Some n) b call r says = tt
    honest_call None None call r says = tt
    honest_call None (Some b) call (Err f) says = absurd says
    honest_call None (Some b) call (Ok a) says = λ has_it. told_hit (g.holds c b) a says (held c row b vouched (ap (λ n. has b (list_of n b row)) same_sets ∙ has_it))

    -- the sets, the life and the row that the cache vouches for, after the call
    after_access : (o : Option ℕ) (d : C) → Accesses g o c d → (g.sets d ≡ S.sets) × (g.life d ≡ S.life) × g.vouches d (row_moved S.sets S.life o row)
    after_access None d e = (ap g.sets e ∙ same_sets, ap g.life e ∙ same_life, subst (λ x. g.vouches x row) (sym e) vouched)
    after_access (Some b) d a =
        let moved : g.vouches d (row_step (g.sets c) (g.life c) b row) = a.3 row vouched in
        (a.0 ∙ same_sets, a.1 ∙ same_life, subst (λ n. g.vouches d (row_step S.sets n b row)) same_life (subst (λ n. g.vouches d (row_step n (g.life c) b row)) same_sets moved))

  pub still_explained : (S : Setting) (call : Call) (c : C) (L : Ledger) (r : Result Answer BenchFault) (d : C) (M : Ledger) →
      Called g S call c L r d M → Explained g S c L → Explained g S d M
  still_explained S call c L r d M turn x =
      let h = x.history in
      let row = row_after S h in
      let here = sym x.ledger in
      let moved = after_access S c row x.vouched x.same_sets x.same_life (accessed S L call) d turn.accesses in
      record {
        history = record { call = call; hit = said_hit r } ∷ h;
        ledger = ap (λ L. after S L call (said_hit r)) x.ledger ∙ sym turn.counts;
        honest = (
          subst (λ L. HitsWhatTheRowHas S (accessed S L call) (said_hit r) row) here (honest_call S c row x.vouched x.same_sets x.same_life (cause S L call) (block_of S L call) call r turn.says),
          x.honest,
        );
        same_sets = moved.0;
        same_life = moved.1;
        vouched = subst (λ L. g.vouches d (row_moved S.sets S.life (accessed S L call) row)) here moved.2;
      }

  -- so the loads are within what the theorem allows
  pub explained_bounded : (S : Setting) (c : C) (L : Ledger) → legal S.task ≡ true → Explained g S c L → LoadsWithin L
  explained_bounded S c L lawful x = subst LoadsWithin x.ledger (loads_are_bounded S lawful x.history x.honest)
