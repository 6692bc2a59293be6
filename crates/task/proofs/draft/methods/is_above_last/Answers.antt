use Rattle.std.proofs.Common.{rules}
use borrow.Author.Tests.{tests}
use Rattle.task.proofs.Rising.{rises_past_last}
use Rattle.task.proofs.draft.methods.is_above_last.Goals as goal

pub returns : goal.returns
returns c = rises_past_last c.args.rises.now c.args.block c.is_none_or.result c.last.result c.last.ensures.value (search (rules, tests))
