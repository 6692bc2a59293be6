-- A call of a bench, from the cause for which it is refused, or from its answer and what it changed. Assumes nothing.
use Rattle.std.proofs.Common.{◌≡◌, ℕ, None, Option, Result, sym, ap, ◌∙◌, subst}
use Rattle.cache.specs.declared.Cache.{Ghosts}
use Rattle.ledger.specs.Ledger.{Setting, Ledger, barred, block_of, cause, cause_in, obeyed, or_else, unless_refused}
use Rattle.ledger.specs.declared.Call.{Call}
use Rattle.ledger.specs.declared.State.{State}
use Rattle.bench.specs.Benches.{Accesses, Called, Says, said_hit}
use Rattle.bench.specs.declared.answer.Answer.{Answer}
use Rattle.bench.specs.declared.fault.BenchFault.{BenchFault}

-- the cause where nothing bars the bench
pub cause_open : (S : Setting) (L : Ledger) (call : Call) (s : State) → barred S ≡ None → L.state ≡ s → cause S L call ≡ cause_in S L s call
cause_open S L call s e h = ap (λ o. or_else o (cause_in S L L.state call)) e ∙ ap (λ s. cause_in S L s call) h

pub cause_barred : (S : Setting) (L : Ledger) (call : Call) (o : Option ℕ) → barred S ≡ o → cause S L call ≡ or_else o (cause_in S L L.state call)
cause_barred S L call o e = ap (λ o. or_else o (cause_in S L L.state call)) e

module _ {C : Type 0} (g : Ghosts C) where
  pub called_from : (S : Setting) (call : Call) (c : C) (L : Ledger) (r : Result Answer BenchFault) (d : C) (M : Ledger) (o : Option ℕ) → cause S L call ≡ o →
      Says o (unless_refused o (block_of S L call) None) call (g.holds c) r →
      M ≡ unless_refused o (obeyed S L call (said_hit r)) L →
      Accesses g (unless_refused o (block_of S L call) None) c d →
      Called g S call c L r d M
  called_from S call c L r d M o e says counts accesses = record {
    says = subst (λ o. Says o (unless_refused o (block_of S L call) None) call (g.holds c) r) (sym e) says;
    counts = counts ∙ ap (λ o. unless_refused o (obeyed S L call (said_hit r)) L) (sym e);
    accesses = subst (λ o. Accesses g (unless_refused o (block_of S L call) None) c d) (sym e) accesses;
  }
