use Rattle.std.proofs.Common.{sym, subst}
use Rattle.std.proofs.lemmas.Bool.{and_from}
use Rattle.bench.specs.Benches.{Explained, ledger_in, setting_of}
use Rattle.bench.proofs.Explaining.{explained_bounded, still_explained}
use Rattle.bench.proofs.Bench.call.Goals as goal

pub returns : goal.returns
returns g c =
    let m = g.C.Cache in
    let s = c.args.self.now in
    let t = c.obey.new.self in
    let e = c.obey.ensures in
    record {
      called = e.called;
      setting = e.setting;
      refused = e.refused;
      explained = λ x.
          subst (λ S. Explained m S t.cache (ledger_in t)) (sym e.setting)
          (still_explained m g.met.C.Cache.holds_what_it_vouches_for (setting_of s) c.args.call s.cache (ledger_in s) c.obey.result t.cache (ledger_in t) e.called x);
      bounded = explained_bounded m g.met.C.Cache.holds_what_it_vouches_for (setting_of t) t.cache (ledger_in t) (and_from _ _ t.setup.task.now.draft.legal t.setup.task.now.complete);
    }
