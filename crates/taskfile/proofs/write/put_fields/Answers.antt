use Rattle.std.proofs.Common.{◌≡◌, ℕ, List, ◌++◌, length, ap, arith}
use Rattle.fields.specs.Layout.{field_bytes}
use Rattle.std.specs.List.{flat_map}
use Rattle.task.specs.Contents.{TaskContents}
use Rattle.task.specs.Meaning.{all_contents}
use Rattle.task.specs.Tasks.{contents}
use Rattle.task.specs.declared.point.Point.{Point}
use Rattle.taskformat.specs.Writing.{fields_after_header, last_fields}
use Rattle.taskfile.proofs.PointBytes.{points_bytes}
use Rattle.taskfile.proofs.Filling.{filled_as, points_first, two_parts, first_fits, second_fits}
use Rattle.taskfile.proofs.write.put_fields.Goals as goal

abbrev last : TaskContents → List ℕ
last t = flat_map field_bytes (last_fields t.evicting)

-- points, and the fields behind them
parts : (shown : List Point) (t : TaskContents) → all_contents shown ≡ t.points → points_bytes shown ++ last t ≡ flat_map field_bytes (fields_after_header t)
parts shown t e = points_first shown t.points (last_fields t.evicting) e

pub put_all-at-requires : goal.put_all-at-requires
put_all-at-requires c = let t = contents c.args.task.now in first_fits (points_bytes c.points.result.now) (last t) _ c.args.out.now (parts c.points.result.now t c.points.ensures.value) c.requires

pub put_last-requires : goal.put_last-requires
put_last-requires c =
    let t = contents c.args.task.now in
    let b = ap (λ (bs : List ℕ). length (flat_map field_bytes (last_fields bs))) c.evicting.ensures.value in
    let f = second_fits (points_bytes c.points.result.now) (last t) _ c.args.out.now c.put_all-at.new.out c.put_all-at.result (parts c.points.result.now t c.points.ensures.value) c.requires c.put_all-at.ensures in
    omega arith

pub returns : goal.returns
returns c =
    let t = contents c.args.task.now in
    two_parts (points_bytes c.points.result.now) (last t) _ c.args.out.now c.put_all-at.new.out c.put_last.new.out c.put_all-at.result c.put_last.result (parts c.points.result.now t c.points.ensures.value) c.requires c.put_all-at.ensures
    (filled_as _ _ _ _ _ (ap (λ (bs : List ℕ). flat_map field_bytes (last_fields bs)) c.evicting.ensures.value) c.put_last.ensures)
