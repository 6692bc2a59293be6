-- The successors of a point, and its access. Assumes nothing.
use Rattle.std.proofs.Common.{◌≡◌, ℕ, zero, suc, ◌<◌, true, ltb, List, [], ◌∷◌, length, get_or, None, refl, arith}
use Rattle.std.proofs.lemmas.Bool.{and_parts, ltb-true}
use Rattle.std.proofs.lemmas.Bool.Decides.{nat_tests}
use Rattle.recency.specs.Blocks.{has}
use Rattle.task.specs.Blocks.{access_at}
use Rattle.task.specs.Contents.{PointContents, point_with}
use Rattle.task.specs.Legal.{closed_point, complete}
use Rattle.task.specs.Lists.{every}
use Rattle.ledger.specs.Ledger.{successors_at}

pub access_of_point : (ps : List PointContents) (p : ℕ) → (get_or ps p (point_with None [])).access ≡ access_at ps p
access_of_point [] p = refl
access_of_point (x ∷ ps) zero = refl
access_of_point (x ∷ ps) (suc p) = access_of_point ps p

below : (n q : ℕ) (xs : List ℕ) → every (λ s. ltb s n) xs ≡ true → has q xs ≡ true → q < n
below n q [] h k = absurd (let z : ◌≡◌ {A = ℕ} 0 1 = cc in omega arith)
below n q (x ∷ xs) h k = let a = and_parts _ _ h in let b = ltb-true x n a.0 in let i = below n q xs a.1 in grind (arith, nat_tests)

closed_at : (n : ℕ) (ps : List PointContents) (p : ℕ) → every (closed_point n) ps ≡ true → every (λ s. ltb s n) (successors_at ps p) ≡ true
closed_at n [] p h = refl
closed_at n (x ∷ ps) zero h = (and_parts _ _ h).0
closed_at n (x ∷ ps) (suc p) h = closed_at n ps p (and_parts _ _ h).1

-- a successor is a point of the task
pub successor_inside : (ps : List PointContents) (p q : ℕ) → complete ps ≡ true → has q (successors_at ps p) ≡ true → q < length ps
successor_inside ps p q h = below (length ps) q (successors_at ps p) (closed_at (length ps) ps p (and_parts _ _ h).1)
