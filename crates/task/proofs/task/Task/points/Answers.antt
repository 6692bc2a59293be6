use Rattle.std.proofs.Common.{length, sym, ap, ◌∙◌, arith}
use lib.ListN.{length-map}
use Rattle.task.specs.Meaning.{point_contents}
use Rattle.task.specs.Tasks.{contents}
use Rattle.task.proofs.Drafting.{kept}
use Rattle.task.proofs.task.Task.points.Goals as goal

pub returns : goal.returns
returns c =
    let many = sym (length-map c.points.result.now point_contents) ∙ ap length c.points.ensures in
    let few = (kept (contents c.args.self.now) c.args.self.now.draft.legal).points_few in
    record { value = c.points.ensures; many = many; few = omega (arith, many, few) }
