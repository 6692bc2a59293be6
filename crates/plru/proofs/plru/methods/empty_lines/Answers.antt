use Rattle.std.proofs.Common.{arith, rules}
use Rattle.plru.proofs.plru.methods.empty_lines.Goals as goal

pub returns-clause-empty : goal.returns-clause-empty
returns-clause-empty c = λ k d h. let long = c.from_fn.ensures.items.long in let r = c.from_fn.ensures.items.at k d (omega arith) in let called = r.2 in search rules
