-- How many bytes the fields of points have. Assumes nothing.
use Rattle.std.proofs.Common.{◌≡◌, ℕ, ◌+◌, ◌*◌, ◌≤◌, List, [], ◌∷◌, map, length, take, Some, None, Option, ap, ◌∙◌, arith, length-append, length-take}
use Rattle.std.specs.List.{flat_map}
use Rattle.std.proofs.lemmas.List.Folds.{flat_map-map}
use Rattle.std.proofs.lemmas.List.{take-map}
use Rattle.fields.specs.Layout.{field_bytes}
use Rattle.task.specs.Contents.{PointContents}
use Rattle.task.specs.Meaning.{point_contents, all_contents}
use Rattle.task.specs.declared.point.Point.{Point}
use Rattle.taskformat.specs.Writing.{access_bytes, point_field, point_place}

abbrev pub point_bytes : Point → List ℕ
point_bytes p = field_bytes (point_field (point_contents p))

abbrev pub points_bytes : List Point → List ℕ
points_bytes ps = flat_map point_bytes ps

-- the fields of what the points say are those of the points
pub bytes_of_contents : (ps : List Point) → flat_map field_bytes (map point_field (all_contents ps)) ≡ points_bytes ps
bytes_of_contents ps = flat_map-map field_bytes point_field (all_contents ps) ∙ flat_map-map (λ p. field_bytes (point_field p)) point_contents ps

pub place_of : (ps : List Point) (k : ℕ) → point_place (all_contents ps) k ≡ 9 + length (points_bytes (take k ps))
place_of ps k =
    ap (λ (qs : List PointContents). 9 + length (flat_map field_bytes (map point_field qs))) (take-map point_contents k ps)
    ∙ ap (λ (bs : List ℕ). 9 + length bs) (bytes_of_contents (take k ps))

access_small : (a : Option ℕ) → length (access_bytes a) ≤ 5
access_small None = omega arith
access_small (Some b) = omega arith

-- a head, a mark, a block and four successors
pub point_small : (p : Point) → length (point_bytes p) ≤ 12
point_small p =
    let a = access_small p.access in
    let e = length-append (access_bytes p.access) (take p.count p.successors) in
    let l = length-take p.count p.successors in
    let f = p.few in
    omega arith

pub points_small : (ps : List Point) → length (points_bytes ps) ≤ 12 * length ps
points_small [] = omega arith
points_small (p ∷ ps) =
    let i = points_small ps in
    let a = point_small p in
    let e = length-append (point_bytes p) (points_bytes ps) in
    omega arith
