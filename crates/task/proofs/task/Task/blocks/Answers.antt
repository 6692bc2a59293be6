use Rattle.std.proofs.Common.{sym, ◌∙◌, subst}
use Rattle.task.specs.Blocks.{ListsEachAccessOnce}
use Rattle.task.specs.Tasks.{contents}
use Rattle.task.proofs.Blocks.{lists_each_access_once}
use Rattle.task.proofs.task.Task.blocks.Goals as goal

pub returns-clause-once : goal.returns-clause-once
returns-clause-once c =
    let ps = (contents c.args.self.now).points in
    subst (ListsEachAccessOnce ps) (sym (c.blocks-2.ensures ∙ c.args.self.now.draft.named)) (lists_each_access_once ps)
