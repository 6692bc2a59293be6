use Rattle.std.proofs.Common.{◌≡◌, true, false, eqb, leb, List, length, sym, ap, ◌∙◌, arith}
use Rattle.std.proofs.lemmas.List.{length-map}
use Rattle.std.proofs.lemmas.Bool.{and_from, eqb-true, eqb-false, le-leb, lt-leb}
use Rattle.task.specs.Contents.{PointContents}
use Rattle.task.specs.Legal.{closed_point, first_open}
use Rattle.task.specs.Meaning.{point_contents, all_contents}
use Rattle.task.specs.declared.point.Point.{Point}
use Rattle.task.proofs.Chains.{every_none}
use Rattle.task.proofs.draft.TaskDraft.finish.Goals as goal

-- the test for points, said of what they say
some_point : (shown : List Point) (ps : List PointContents) → all_contents shown ≡ ps → false ≡ eqb (length shown) 0 → leb 1 (length ps) ≡ true
some_point shown ps e h =
    let l = length-map shown point_contents in
    let n = eqb-false (length shown) 0 (sym h) in
    le-leb 1 (length ps) (omega (arith, ap length e))

no_points : (shown : List Point) (ps : List PointContents) → all_contents shown ≡ ps → true ≡ eqb (length shown) 0 → leb 1 (length ps) ≡ false
no_points shown ps e h =
    let l = length-map shown point_contents in
    let n = eqb-true (length shown) 0 (sym h) in
    lt-leb 1 (length ps) (omega (arith, ap length e))

pub invariant_of-result : goal.invariant_of-result
invariant_of-result c =
    let ps = all_contents c.args.self.points.items in
    let closed = every_none (closed_point (length ps)) 0 ps (sym (c.in-None.ensures ∙ ap first_open c.points-2.ensures)) in
    record { complete = and_from _ _ (some_point _ _ c.points.ensures c.if-is_empty.ensures) closed }
