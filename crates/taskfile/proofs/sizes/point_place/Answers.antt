use Rattle.std.proofs.Common.{rules, ℕ, List, ◌≡◌, ◌+◌, ◌≤◌, length, take, ap, ◌∙◌, sym, arith, length-take}
use borrow.Author.Tests.{tests}
use Rattle.std.proofs.lemmas.List.Concat.{length-flat_map}
use Rattle.std.proofs.lemmas.Iterator.{YieldsList-from_slice, YieldsList-from_map}
use Rattle.std.proofs.lemmas.Iterator.Consumers.{fits_by_from_yields_list, sum_by_from_yields_List}
use Rattle.std.specs.List.{sum_by}
use Rattle.task.specs.declared.point.Point.{Point}
use Rattle.taskfile.proofs.PointBytes.{point_bytes, points_bytes, place_of, points_small}
use Rattle.taskfile.proofs.sizes.point_place.Goals as goal

pub sum-requires-clause-fits : goal.sum-requires-clause-fits
sum-requires-clause-fits c =
    let before = take c.args.k c.args.points.now in
    let s = length-flat_map point_bytes before in
    let n = points_small before in
    let l = length-take c.args.k c.args.points.now in
    fits_by_from_yields_list (λ p. length (point_bytes p)) before c.map.result _
    (YieldsList-from_map _ _ (YieldsList-from_slice before (search rules)) (cc) (λ x r q k. search (rules, tests)))
    (omega (arith, c.requires.few))

-- what was added up
module _ (points : List Point) (k sum : ℕ) (e : sum ≡ sum_by (λ p. length (point_bytes p)) (take k points)) where
  summed : sum ≡ length (points_bytes (take k points))
  summed = e ∙ sym (length-flat_map point_bytes (take k points))

  small : length points ≤ 128 → sum ≤ 1536
  small h = let a = summed in let n = points_small (take k points) in let l = length-take k points in omega arith

pub overflow_add-result : goal.overflow_add-result
overflow_add-result c =
    let added = sum_by_from_yields_List (λ p. length (point_bytes p)) (take c.args.k c.args.points.now) c.map.result c.sum.result c.sum.ensures.ran
    (YieldsList-from_map _ _ (YieldsList-from_slice (take c.args.k c.args.points.now) (search rules)) (cc) (λ x r q k. search (rules, tests))) in
    let s = small c.args.points.now c.args.k c.sum.result added c.requires.few in
    omega arith

pub returns : goal.returns
returns c =
    let added = sum_by_from_yields_List (λ p. length (point_bytes p)) (take c.args.k c.args.points.now) c.map.result c.sum.result c.sum.ensures.ran
    (YieldsList-from_map _ _ (YieldsList-from_slice (take c.args.k c.args.points.now) (search rules)) (cc) (λ x r q k. search (rules, tests))) in
    let a = summed c.args.points.now c.args.k c.sum.result added in
    ap (λ n. 9 + n) a ∙ sym (place_of c.args.points.now c.args.k)
