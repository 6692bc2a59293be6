use Rattle.std.proofs.Common.{◌≡◌, false, cond, Some, None, sym, refl, ap, ◌∙◌, subst}
use Rattle.recency.specs.Blocks.{has}
use Rattle.recency.specs.Rows.{list_of, row_step}
use Rattle.task.specs.Blocks.{access_at}
use Rattle.cache.specs.LruState.{lru_row}
use Rattle.bench.specs.Benches.{Accesses, answer_of, ledger_in, loads_of, setting_of}
use Rattle.bench.specs.declared.answer.Answer.TheVariants.{Access, NoAccess}
use Rattle.bench.proofs.Steps.{loads_met, stepped_quietly, stepped_with}
use Rattle.bench.proofs.Successors.{access_of_point}
use Rattle.bench.proofs.Bench.perform.Goals as goal

pub returns-in_default : goal.returns-in_default
returns-in_default g c =
    let m = g.C.Cache in
    let s = c.args.self.now in
    let ps = (setting_of s).task.points in
    let e : access_at ps s.point ≡ None = sym (access_of_point ps s.point) ∙ ap (λ p. p.access) (sym c.here.ensures) ∙ sym c.access.ensures ∙ c.in_default.is in
    record {
      says = ap (answer_of (m.holds s.cache) NoAccess) (sym e);
      counts = stepped_quietly (setting_of s) (ledger_in s) e false s.state s.point;
      accesses = subst (λ b. Accesses m b s.cache s.cache) (sym e) refl;
      setting = refl;
    }

pub returns : goal.returns
returns g c =
    let m = g.C.Cache in
    let s = c.args.self.now in
    let ps = (setting_of s).task.points in
    let b = c.in-Some.block in
    let e : access_at ps s.point ≡ Some b = sym (access_of_point ps s.point) ∙ ap (λ p. p.access) (sym c.here.ensures) ∙ sym c.access.ensures ∙ c.in-Some.is in
    let a = c.access-outcome.ensures in
    let p = c.load.ensures in
    let d = c.access-outcome.new.self in
    let loaded : c.loads.result ≡ loads_of c.access-outcome.result = c.loads.ensures in
    let plain_loaded : c.loads-2.result ≡ loads_of c.load.result = c.loads-2.ensures in
    record {
      says = ap Access a.hit ∙ ap (answer_of (m.holds s.cache) NoAccess) (sym e);
      counts =
          stepped_with (setting_of s) (ledger_in s) b e c.access-outcome.result c.loads.result c.loads-2.result (lru_row c.load.new.self) loaded
          (plain_loaded ∙ ap loads_of p.hit ∙ loads_met _ ∙ ap (λ n. cond (has b (list_of n b (lru_row s.plain))) 0 1) s.plain_sets)
          (p.moved ∙ ap (λ n. row_step n s.plain.ways b (lru_row s.plain)) s.plain_sets ∙ ap (λ n. row_step (setting_of s).task.sets n b (lru_row s.plain)) s.plain_ways)
          s.state s.point;
      accesses = subst (λ b. Accesses m b s.cache d) (sym e) (a.sets, a.life, a.held, a.moves);
      setting = refl;
    }
