use Rattle.std.proofs.Common.{◌<◌, [], length, get_or, None, sym, ap, ◌∙◌, arith}
use Rattle.std.proofs.lemmas.List.{get_or-map}
use Rattle.task.specs.Contents.{point_with}
use Rattle.task.specs.Meaning.{point_contents}
use Rattle.bench.proofs.Bench.here.Goals as goal

pub bounds-points-self : goal.bounds-points-self
bounds-points-self g c = let n = c.points.ensures.many in omega (arith, n, c.args.self.now.inside)

pub returns : goal.returns
returns g c =
    let n = c.points.ensures.many in
    let l : c.args.self.now.point < length c.points.result.now = omega (arith, n, c.args.self.now.inside) in
    let none = point_with None [] in
    ap point_contents c.index-points-self.is
    ∙ sym (get_or-map point_contents c.points.result.now c.args.self.now.point c.index-points-self.result none l)
    ∙ ap (λ ps. get_or ps c.args.self.now.point none) c.points.ensures.value
