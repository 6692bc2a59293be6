use Rattle.std.proofs.Common.{rules, ltb}
use borrow.Author.Tests.{tests}
use Rattle.std.proofs.lemmas.Fn.{always_returns_same}
use Rattle.task.proofs.Chains.{sorted_rising}
use Rattle.task.proofs.point.methods.is_rising.Goals as goal

pub returns : goal.returns
returns c = sorted_rising c.args.numbers.now c.is_sorted_by.result (c.is_sorted_by.ensures.cases ltb (always_returns_same _ _ _ (λ a r q k. search (rules, tests))))
