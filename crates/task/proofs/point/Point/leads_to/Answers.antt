use Rattle.std.proofs.Common.{rules, eqb, ap, ◌∙◌}
use borrow.Author.Tests.{tests}
use Rattle.std.proofs.lemmas.Iterator.{YieldsList-from_slice}
use Rattle.std.proofs.lemmas.Iterator.Search.{any_from_yields_List}
use Rattle.recency.specs.Blocks.{has}
use Rattle.task.proofs.Chains.{any_has}
use Rattle.task.proofs.point.Point.leads_to.Goals as goal

pub returns : goal.returns
returns c =
    any_from_yields_List (λ s. eqb s c.args.to) _ _ _ c.any.ensures.ran (YieldsList-from_slice c.successors.result.now cc) (λ x b q k. search (rules, tests))
    ∙ any_has c.args.to c.successors.result.now ∙ ap (has c.args.to) c.successors.ensures
