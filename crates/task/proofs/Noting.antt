-- The distinct blocks of points, one point on. Assumes nothing.
use Rattle.std.proofs.Common.{◌≡◌, ℕ, true, false, List, [], ◌∷◌, ◌++◌, Some, refl}
use Rattle.std.proofs.lemmas.Bool.{cond-true, cond-false}
use Rattle.task.specs.Contents.{PointContents}
use Rattle.task.specs.Blocks.{noted, noted_all}
use Rattle.recency.specs.Blocks.{has}

pub noted_old : (seen : List ℕ) (b : ℕ) → has b seen ≡ true → noted seen (Some b) ≡ seen
noted_old seen b h = cond-true (has b seen) seen (seen ++ (b ∷ [])) h

pub noted_new : (seen : List ℕ) (b : ℕ) → has b seen ≡ false → noted seen (Some b) ≡ seen ++ (b ∷ [])
noted_new seen b h = cond-false (has b seen) seen (seen ++ (b ∷ [])) h

pub noted_push : (seen : List ℕ) (ps : List PointContents) (p : PointContents) → noted_all seen (ps ++ (p ∷ [])) ≡ noted (noted_all seen ps) p.access
noted_push seen [] p = refl
noted_push seen (q ∷ ps) p = noted_push (noted seen q.access) ps p
