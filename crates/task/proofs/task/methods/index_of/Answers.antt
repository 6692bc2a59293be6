use Rattle.std.proofs.Common.{rules, eqb, ◌∙◌}
use borrow.Author.Tests.{tests}
use Rattle.std.proofs.lemmas.Iterator.{YieldsList-from_slice}
use Rattle.std.proofs.lemmas.Iterator.Adapters.{position_from-zero}
use Rattle.std.proofs.lemmas.Iterator.Search.{position_from_yields_List}
use Rattle.task.proofs.Chains.{position_first}
use Rattle.task.proofs.task.methods.index_of.Goals as goal

pub returns : goal.returns
returns c =
    position_from_yields_List (eqb c.args.block) _ _ _ c.position.ensures.ran (YieldsList-from_slice c.args.blocks.now cc) (λ x b q k. search (rules, tests))
    ∙ position_from-zero (eqb c.args.block) c.args.blocks.now
    ∙ position_first (eqb c.args.block) 0 c.args.blocks.now
