use Rattle.std.proofs.Common.{◌≡◌, List, [], ◌∷◌, ◌++◌, get_or, take, vec_items, sym, subst}
use Rattle.std.proofs.lemmas.List.{take_all, take_more}
use Rattle.task.specs.Tasks.{contents}
use Rattle.tables.specs.Rows.{rows_of, shortest}
use Rattle.ledger.specs.Ledger.{Setting}
use Rattle.ledger.specs.declared.Call.{Call}
use Rattle.ledger.specs.declared.Call.TheVariants.{Step}
use Rattle.bench.specs.Benches.{Built, ledger_in, setting_of}
use Rattle.bench.specs.Keeping.{setting_with}
use Rattle.replaying.specs.Replays.{Replayed}
use Rattle.replaying.specs.declared.Played.{Played}
use Rattle.replaying.proofs.Along.{Along, along_all, along_more}
use Rattle.replaying.proofs.play.replay.Goals as goal

pub loop-call-preserved : goal.loop-call-preserved
loop-call-preserved g c =
    let m = g.C.Cache in
    let calls = c.args.calls.now in
    let i = c.loop-call.call-index in
    let call = get_or calls i (Step 0) in
    let first = c.new-bench.result in
    let b = c.loop-call.bench in
    let d = c.call-answer.new.self in
    let x : Played = record { answer = c.call-answer.result; counts = c.read-counts.result } in
    let said = c.call-answer.ensures in
    let one = along_more m (setting_of first) first.cache (take i calls) (vec_items c.loop-call.played) b.cache (ledger_in b) (setting_of b) call x d.cache (ledger_in d) (setting_of d) c.loop-call.invariant said.called c.read-counts.ensures said.setting said.explained said.bounded in
    subst (λ (ks : List Call). Along m (setting_of first) first.cache ks (vec_items c.push.new.self) d.cache (ledger_in d) (setting_of d)) (sym (take_more calls i (Step 0) c.loop-call-test.true))
    (subst (λ (xs : List Played). Along m (setting_of first) first.cache (take i calls ++ (call ∷ [])) xs d.cache (ledger_in d) (setting_of d)) (sym c.in_ok-push.ensures.items) one)

pub returns : goal.returns
returns g c =
    let m = g.C.Cache in
    let calls = c.args.calls.now in
    let first = c.new-bench.result in
    let b = c.loop-call.bench in
    let made = c.new-bench.ensures in
    let S : Setting = setting_with (contents c.args.task.now) (shortest (rows_of c.args.tables.now)) (m.sets c.args.cache) (m.life c.args.cache) in
    let whole = along_all m (setting_of first) first.cache (take c.loop-call.call-index calls) (vec_items c.loop-call.played) b.cache (ledger_in b) (setting_of b) c.loop-call.invariant in
    let all : take c.loop-call.call-index calls ≡ calls = take_all c.loop-call.call-index calls c.loop-call-test.false in
    record {
      replayed = subst (λ (T : Setting). Replayed m T calls c.args.cache (vec_items c.loop-call.played) b.cache (ledger_in b)) made.setting
          (subst (λ (x : g.row.C.Denot). Replayed m (setting_of first) calls x (vec_items c.loop-call.played) b.cache (ledger_in b)) made.cache
          (subst (λ (ks : List Call). Replayed m (setting_of first) ks first.cache (vec_items c.loop-call.played) b.cache (ledger_in b)) all whole));
      tables = subst (λ (T : Setting). Built T (rows_of c.args.tables.now) (rows_of c.new-bench.new.tables)) made.setting made.tables;
      lent = made.lent;
    }
