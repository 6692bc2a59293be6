use Rattle.std.proofs.Common.{rules, ltb, ap, ◌∙◌}
use borrow.Author.Tests.{tests}
use Rattle.std.proofs.lemmas.Iterator.{YieldsList-from_slice}
use Rattle.std.proofs.lemmas.Iterator.Search.{all_from_yields_List}
use Rattle.task.specs.Lists.{every}
use Rattle.task.proofs.Chains.{all_every}
use Rattle.task.proofs.task.finish.is_closed.Goals as goal

pub returns : goal.returns
returns c =
    all_from_yields_List (λ s. ltb s c.args.count) _ _ _ c.all.ensures.ran (YieldsList-from_slice c.successors.result.now cc) (λ x b q k. search (rules, tests))
    ∙ all_every (λ s. ltb s c.args.count) c.successors.result.now
    ∙ ap (every (λ s. ltb s c.args.count)) c.successors.ensures
