-- What a step counts, with its access and without. Assumes nothing.
use Rattle.std.proofs.Common.{◌≡◌, ℕ, ◌+◌, Bool, true, false, cond, List, Some, None, Ok, sym, refl, ap, ◌∙◌, add-zero}
use Rattle.recency.specs.Blocks.{has}
use Rattle.recency.specs.Rows.{list_of, row_step}
use Rattle.task.specs.Blocks.{access_at}
use Rattle.cache.specs.Outcomes.{outcome_of}
use Rattle.cache.specs.declared.outcome.Outcome.{Outcome}
use Rattle.cache.specs.declared.outcome.Outcome.TheVariants.{Hit, Miss}
use Rattle.ledger.specs.Ledger.{Setting, Ledger, counts_of, ledger_with, load, plain_load, row_moved, stepped}
use Rattle.ledger.specs.declared.State.{State}
use Rattle.bench.specs.Benches.{loads_of, said_hit}
use Rattle.bench.specs.declared.answer.Answer.TheVariants.{Access}

-- the loads of an outcome, as the ledger is told of it
loads_told : (o : Outcome) → loads_of o ≡ cond (said_hit (Ok (Access o))) 0 1
loads_told Hit = refl
loads_told Miss = refl

pub loads_met : (held : Bool) → loads_of (outcome_of held) ≡ cond held 0 1
loads_met true = refl
loads_met false = refl

module _ (S : Setting) (L : Ledger) where
  pub stepped_quietly : access_at S.task.points L.point ≡ None → (hit : Bool) (state : State) (point : ℕ) →
      ledger_with state point (counts_of (L.counts.steps + 1) L.counts.interruptions L.counts.loads L.counts.plain L.counts.charge) L.plain ≡ stepped S L hit state point
  stepped_quietly e hit state point =
      let n = L.counts in
      let quiet : n.loads ≡ n.loads + 0 = sym (add-zero n.loads) in
      let plain : n.plain ≡ n.plain + 0 = sym (add-zero n.plain) in
      (λ i. ledger_with state point (counts_of (n.steps + 1) n.interruptions (quiet i) (plain i) n.charge) L.plain)
      ∙ ap (λ b. ledger_with state point (counts_of (n.steps + 1) n.interruptions (n.loads + load b hit) (n.plain + plain_load S.task.sets b L.plain) n.charge) (row_moved S.task.sets S.task.ways b L.plain)) (sym e)

  pub stepped_with : (b : ℕ) → access_at S.task.points L.point ≡ Some b → (o : Outcome) (loaded plain_loaded : ℕ) (row : List (List ℕ)) →
      loaded ≡ loads_of o → plain_loaded ≡ cond (has b (list_of S.task.sets b L.plain)) 0 1 → row ≡ row_step S.task.sets S.task.ways b L.plain →
      (state : State) (point : ℕ) →
      ledger_with state point (counts_of (L.counts.steps + 1) L.counts.interruptions (L.counts.loads + loaded) (L.counts.plain + plain_loaded) L.counts.charge) row ≡ stepped S L (said_hit (Ok (Access o))) state point
  stepped_with b e o loaded plain_loaded row l p r state point =
      let n = L.counts in
      let hit = said_hit (Ok (Access o)) in
      let told = l ∙ loads_told o in
      (λ i. ledger_with state point (counts_of (n.steps + 1) n.interruptions (n.loads + told i) (n.plain + p i) n.charge) (r i))
      ∙ ap (λ b. ledger_with state point (counts_of (n.steps + 1) n.interruptions (n.loads + load b hit) (n.plain + plain_load S.task.sets b L.plain) n.charge) (row_moved S.task.sets S.task.ways b L.plain)) (sym e)
