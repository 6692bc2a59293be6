use Rattle.std.proofs.Common.{◌≡◌, ℕ, suc, ◌+◌, ◌<◌, Bool, not, List, [], ◌∷◌, length, Some, None, Option, sym, refl, ap, ◌∙◌, arith}
use Rattle.std.proofs.lemmas.List.{length-map}
use Rattle.std.proofs.lemmas.Bool.{cond-true, le-leb}
use Rattle.task.specs.Contents.{PointContents, TaskContents}
use Rattle.task.specs.Adding.{no_point, open_at, closing, completion}
use Rattle.task.specs.Answers.{cause_said}
use Rattle.task.specs.Legal.{closed_point, first_open}
use Rattle.task.specs.Lists.{first_from}
use Rattle.task.specs.Meaning.{point_contents}
use Rattle.task.specs.Drafts.{draft_contents}
use Rattle.taskfile.proofs.read.close.Goals as goal

with_points : (p : PointContents) (ps : List PointContents) → completion (p ∷ ps) ≡ closing (first_open (p ∷ ps))
with_points p ps = cond-true _ _ no_point (le-leb 1 (length (p ∷ ps)) (omega arith))

first_within : {X : Type 0} (i k : ℕ) (test : X → Bool) (xs : List X) → first_from i test xs ≡ Some k → k < i + length xs
first_within i k test [] e = absurd (let z : ◌≡◌ {A = ℕ} 0 1 = cc in omega arith)
first_within i k test (x ∷ xs) e = let more = first_within (suc i) k test xs in grind arith

open_within : (ps : List PointContents) (k : ℕ) → completion ps ≡ open_at k → k < length ps
open_within [] k e = absurd (let z : ◌≡◌ {A = ℕ} 0 1 = cc in omega arith)
open_within (p ∷ ps) k e = by (first_open (p ∷ ps)) refl (sym (with_points p ps) ∙ e)
  where
    by : (o : Option ℕ) → first_open (p ∷ ps) ≡ o → closing o ≡ open_at k → k < length (p ∷ ps)
    by None f g = absurd (let z : ◌≡◌ {A = ℕ} 0 1 = cc in omega arith)
    by (Some j) f g = let same : j ≡ k = cc in let h = first_within 0 j (λ q. not (closed_point (length (p ∷ ps)) q)) (p ∷ ps) f in omega arith

pub point_place-requires-clause-within : goal.point_place-requires-clause-within
point_place-requires-clause-within c =
    let e = c.in-Err.ensures in
    let d = c.args.draft in
    let within = open_within (draft_contents d).points c.in-NoSuccessor.k (e.0 ∙ ap cause_said c.in-NoSuccessor.is) in
    let shown = length-map c.points.result.now point_contents in
    let same = ap length c.points.ensures in
    let back = ap (λ (t : TaskContents). length t.points) e.1 in
    omega arith
