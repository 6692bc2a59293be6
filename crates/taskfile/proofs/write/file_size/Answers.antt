use Rattle.std.proofs.Common.{◌≡◌, ℕ, ◌+◌, ◌*◌, ◌≤◌, List, length, ap, ◌∙◌, arith}
use Rattle.std.proofs.lemmas.List.{length-map, take_all}
use Rattle.task.specs.Drafts.{draft_contents}
use Rattle.task.specs.Meaning.{point_contents, all_contents}
use Rattle.task.specs.declared.draft.TaskDraft.{TaskDraft}
use Rattle.task.specs.declared.point.Point.{Point}
use Rattle.task.proofs.Drafting.{kept}
use Rattle.taskformat.specs.Writing.{point_place, task_bytes}
use Rattle.taskfile.proofs.PointBytes.{points_bytes, place_of, points_small}
use Rattle.taskfile.proofs.Filling.{whole_length}
use Rattle.taskfile.proofs.write.file_size.Goals as goal

-- what is added up is the length of the file
module _ (shown : List Point) (d : TaskDraft) (place : ℕ) (blocks : List ℕ) (e : all_contents shown ≡ (draft_contents d).points)
    (p : place ≡ point_place (all_contents shown) (length shown)) (b : blocks ≡ (draft_contents d).evicting) where
  placed : place ≡ 9 + length (points_bytes shown)
  placed = p ∙ place_of shown (length shown) ∙ ap (λ ps. 9 + length (points_bytes ps)) (take_all (length shown) shown (omega arith))

  added : place + 7 * length blocks + 3 ≡ length (task_bytes (draft_contents d))
  added = let q = placed in let n = ap length b in let w = whole_length shown (draft_contents d) e in omega arith

  small : place + 7 * length blocks + 3 ≤ 1996
  small =
      let k = kept (draft_contents d) d.legal in
      let few = k.points_few in
      let fewer = k.evicting_few in
      let l = length-map shown point_contents in
      let m = ap length e in
      let q = placed in
      let n = ap length b in
      let s = points_small shown in
      omega arith

pub overflow_add-result-2 : goal.overflow_add-result-2
overflow_add-result-2 c = let s = small c.points-points.result.now c.args.task.now.draft c.point_place.result c.evicting.result.now c.points-points.ensures.value c.point_place.ensures c.evicting.ensures.value in omega arith

pub overflow_add-result-3 : goal.overflow_add-result-3
overflow_add-result-3 c = let s = small c.points-points.result.now c.args.task.now.draft c.point_place.result c.evicting.result.now c.points-points.ensures.value c.point_place.ensures c.evicting.ensures.value in omega arith

pub returns : goal.returns
returns c = added c.points-points.result.now c.args.task.now.draft c.point_place.result c.evicting.result.now c.points-points.ensures.value c.point_place.ensures c.evicting.ensures.value
