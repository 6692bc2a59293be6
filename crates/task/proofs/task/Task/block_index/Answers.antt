use Rattle.std.proofs.Common.{◌≡◌, ℕ, ◌<◌, eqb, List, length, get_or, sym, ap, ◌∙◌, arith}
use Rattle.std.proofs.lemmas.List.{length-map, get_or-map}
use Rattle.std.proofs.lemmas.Bool.{ltb-true, ltb-false}
use Rattle.task.specs.Contents.{PointContents}
use Rattle.task.specs.Blocks.{access_at, access_index, distinct_blocks}
use Rattle.task.specs.Lists.{first_from}
use Rattle.task.specs.Meaning.{point_contents, all_contents}
use Rattle.task.specs.Tasks.{contents}
use Rattle.task.specs.declared.point.Point.{Point}
use Rattle.task.proofs.Blocks.{access_past, access_here}
use Rattle.task.proofs.task.Task.block_index.Goals as goal

-- the access of a point that was found
found : (shown : List Point) (ps : List PointContents) (k : ℕ) (p : Point) → all_contents shown ≡ ps → k < length shown → p ≡ get_or shown k p → access_at ps k ≡ p.access
found shown ps k p e h g =
    let l = length-map shown point_contents in
    ap (λ (qs : List PointContents). access_at qs k) (sym e)
    ∙ access_here (all_contents shown) k (point_contents p) (omega arith)
    ∙ ap (λ (q : PointContents). q.access) (get_or-map point_contents shown k p (point_contents p) h)
    ∙ ap (λ (q : Point). q.access) (sym g)

pub returns-in_err-get : goal.returns-in_err-get
returns-in_err-get c =
    let ps = (contents c.args.self.now).points in
    let l = length-map c.points.result.now point_contents in
    let past = ltb-false _ _ (sym c.in_err-get.ensures.lookup.0) in
    c.from_residual.ensures
    ∙ sym (ap (access_index (distinct_blocks ps)) (access_past ps c.args.point (omega (arith, ap length c.points.ensures.value))))

pub returns-in_err-block : goal.returns-in_err-block
returns-in_err-block c =
    let ps = (contents c.args.self.now).points in
    let at = c.in_ok-get.ensures.lookup in
    let here = found _ ps c.args.point c.in_ok-get.field-0.now c.points.ensures.value (ltb-true _ _ (sym at.0)) at.1 in
    c.from_residual-in_err-block.ensures ∙ sym (ap (access_index (distinct_blocks ps)) (here ∙ sym c.in_err-block.ensures))

pub returns : goal.returns
returns c =
    let ps = (contents c.args.self.now).points in
    let at = c.in_ok-get.ensures.lookup in
    let here = found _ ps c.args.point c.in_ok-get.field-0.now c.points.ensures.value (ltb-true _ _ (sym at.0)) at.1 in
    c.index_of.ensures
    ∙ ap (first_from 0 (eqb c.in_ok-block.block)) c.blocks-2.ensures.value
    ∙ sym (ap (access_index (distinct_blocks ps)) (here ∙ sym c.in_ok-block.ensures))
