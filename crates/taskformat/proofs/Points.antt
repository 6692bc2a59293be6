-- A legal point and the body of its field give each other back.
use Rattle.std.proofs.Common.{◌≡◌, ℕ, ◌<◌, true, List, [], ◌∷◌, ◌++◌, Some, None, Option, arith}
use Rattle.std.proofs.lemmas.Bool.Decides.{nat_tests}
use Rattle.fields.specs.Layout.{point, sized}
use Rattle.task.specs.Contents.{PointContents, point_with}
use Rattle.task.specs.Legal.{legal_point}
use Rattle.taskformat.specs.Writing.{access_bytes, point_field}
use Rattle.taskformat.specs.Reading.{point_of}
use Rattle.taskformat.proofs.Numbers.{Bytes, number_back, bytes_back}

-- the point that its body is read as
pub point_back : (access : Option ℕ) (successors : List ℕ) → legal_point (point_with access successors) ≡ true
    → point_of (access_bytes access ++ successors) ≡ Some (point_with access successors)
point_back None successors h = grind (arith, nat_tests)
point_back (Some b) successors h =
    let below : b < 16777216 = grind (arith, nat_tests) in
    let same = number_back b (omega arith) in
    grind (arith, nat_tests)

-- a point's field has room for a block and four successors
pub point_sized : (access : Option ℕ) (successors : List ℕ) → legal_point (point_with access successors) ≡ true
    → sized (point_field (point_with access successors)) ≡ true
point_sized None successors h = grind (arith, nat_tests)
point_sized (Some b) successors h = grind (arith, nat_tests)

-- the field that a point was read from
pub body_back : (body : List ℕ) (p : PointContents) → Bytes body → sized (point body) ≡ true → point_of body ≡ Some p → point_field p ≡ point body
body_back [] p h ok e = absurd (let z : ◌≡◌ {A = ℕ} 0 1 = cc in omega arith)
body_back (m ∷ rest) p h ok e = let back = bytes_back rest h.1 in grind (arith, nat_tests)
