use Rattle.std.proofs.Common.{sym, ap, ◌∙◌}
use Rattle.cache.specs.Outcomes.{outcome_of}
use Rattle.plru.specs.Meaning.{state_of}
use Rattle.plru.specs.Tree.{touched}
use Rattle.plru.specs.Lists.{found, not_found}
use Rattle.plru.specs.Holding.{hit_step, miss_step}
use Rattle.plru.proofs.set.PlruSet.access.Goals as goal

pub returns-in-Some : goal.returns-in-Some
returns-in-Some c =
    let s = state_of c.args.self.now in
    let f = found c.args.block s.blocks _ (sym c.way_of.ensures ∙ c.in-Some.is) in
    record {
      hit = ap outcome_of (sym f.0);
      moved = hit_step c.args.tree.ways c.args.block s _ f.0 (c.touch-self.ensures ∙ ap (λ w. touched c.args.tree.ways w s.bits) f.1);
    }

pub returns : goal.returns
returns c =
    let s = state_of c.args.self.now in
    let h = not_found c.args.block s.blocks (sym c.way_of.ensures ∙ c.in_default.is) in
    let f = c.fill-way.ensures in
    record {
      hit = ap outcome_of (sym h);
      moved = miss_step c.args.tree.ways c.args.block s _ c.fill-way.result c.fill-way.new.self.bits _ h f.blocks f.way f.bits c.touch-self-2.ensures;
    }
