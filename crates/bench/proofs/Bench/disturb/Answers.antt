use Rattle.std.proofs.Common.{◌≡◌, true, false, Some, None, Ok, Err, sym, refl, ap, ◌∙◌}
use Rattle.recency.specs.Blocks.{has}
use Rattle.ledger.specs.Ledger.{unless}
use Rattle.ledger.specs.declared.Call.TheVariants.{Touch}
use Rattle.ledger.specs.declared.State.TheVariants.{Interrupted}
use Rattle.bench.specs.Benches.{ledger_in, setting_of}
use Rattle.bench.specs.declared.answer.Answer.TheVariants.{Access}
use Rattle.bench.specs.declared.fault.BenchFault.TheVariants.{NotEvicting}
use Rattle.bench.proofs.Finding.{found, not_found}
use Rattle.bench.proofs.Turns.{called_from, cause_open}
use Rattle.bench.proofs.Bench.disturb.Goals as goal

pub returns-in_default : goal.returns-in_default
returns-in_default g c =
    let m = g.C.Cache in
    let s = c.args.self.now in
    let b = c.args.block in
    let has_not : has b (setting_of s).task.evicting ≡ false = not_found b 0 (setting_of s).task.evicting (sym c.evicting_index.ensures ∙ c.in_default.is) in
    record {
      called =
          called_from m (setting_of s) (Touch b) s.cache (ledger_in s) (Err NotEvicting) s.cache (ledger_in s) (Some 20)
          (cause_open (setting_of s) (ledger_in s) (Touch b) Interrupted c.requires.unbarred c.requires.state ∙ ap (λ t. unless t 20) has_not) refl refl refl;
      setting = refl;
      refused = refl;
    }

pub returns : goal.returns
returns g c =
    let m = g.C.Cache in
    let s = c.args.self.now in
    let b = c.args.block in
    let a = c.access.ensures in
    let has_it : has b (setting_of s).task.evicting ≡ true = found b 0 (setting_of s).task.evicting c.in-Some.field-0 (sym c.evicting_index.ensures ∙ c.in-Some.is) in
    record {
      called =
          called_from m (setting_of s) (Touch b) s.cache (ledger_in s) (Ok (Access c.access.result)) c.access.new.self (ledger_in s) None
          (cause_open (setting_of s) (ledger_in s) (Touch b) Interrupted c.requires.unbarred c.requires.state ∙ ap (λ t. unless t 20) has_it) (ap Access a.hit) refl (a.sets, a.life, a.held, a.moves);
      setting = refl;
      refused = tt;
    }
