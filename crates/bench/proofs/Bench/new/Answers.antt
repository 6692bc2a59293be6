use Rattle.std.proofs.Common.{◌≡◌, ◌≤◌, [], length, sym, refl, ap, ◌∙◌, subst, arith}
use Rattle.std.proofs.lemmas.Bool.{and_parts, leb-true}
use Rattle.recency.specs.Rows.{empty_row}
use Rattle.task.specs.Tasks.{contents}
use Rattle.cache.specs.LruState.{lru_row}
use Rattle.tables.specs.Rows.{rows_of, shortest}
use Rattle.ledger.specs.Ledger.{counts_of, ledger_with}
use Rattle.ledger.specs.declared.State.TheVariants.{Walking}
use Rattle.bench.specs.Keeping.{setting_with}
use Rattle.bench.proofs.Bench.new.Goals as goal

pub invariant_of-result : goal.invariant_of-result
invariant_of-result g c =
    let t = contents c.args.task.now in
    let some : 1 ≤ length t.points = leb-true _ _ (and_parts _ _ c.args.task.now.complete).0 in
    let k = c.kept_numbers-resilient.ensures in
    let l = c.empty_lists.ensures in
    record {
      inside = omega arith;
      numbers = k.room;
      knows = k.knows;
      few_steps = omega arith;
      few_loads = omega arith;
      few_plain = omega arith;
      few_interruptions = omega arith;
      small_charge = omega arith;
      plain_sets = l.sets;
      plain_ways = l.ways;
    }

pub returns : goal.returns
returns g c =
    let m = g.C.Cache in
    let t = contents c.args.task.now in
    let x = c.args.cache in
    let room : c.len.result ≡ shortest (rows_of c.args.tables.now) = c.len.ensures in
    let sets : c.sets.result ≡ m.sets x = c.sets.ensures in
    let life : c.life.result ≡ m.life x = c.life.ensures in
    let k = c.kept_numbers-resilient.ensures in
    let ledger = (let d = c.default.ensures in λ i. ledger_with Walking 0 (counts_of (d.0 i) (d.1.0 i) (d.1.1.0 i) (d.1.1.1.0 i) (d.1.1.1.1 i)) (lru_row c.empty_lists.result)) ∙ ap (ledger_with Walking 0 (counts_of 0 0 0 0 0)) c.empty_lists.ensures.empty in
    record {
      setting = λ i. setting_with t (room i) (sets i) (life i);
      ledger = ledger;
      cache = refl;
      tables = k.tables;
      lent = k.lent;
      explained = record {
        history = [];
        ledger = sym ledger;
        honest = tt;
        same_sets = sym sets;
        same_life = sym life;
        vouched = subst (λ n. m.vouches x (empty_row n)) (sym sets) (g.met.C.Cache.vouches_for_empty_lists x);
      };
    }
