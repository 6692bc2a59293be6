-- What a draft answers, said of the task so far. Assumes nothing.
use Rattle.std.proofs.Common.{◌≡◌, ℕ, Bool, true, false, cond, Some, None, Ok, Err, Result, Option, sym, refl, ◌∙◌, subst, arith}
use Rattle.std.proofs.lemmas.Bool.{cond_both}
use Rattle.fields.specs.Layout.{FieldContents, header, point, evicting, end}
use Rattle.task.specs.Contents.{PointContents, TaskContents, add_point, add_evicting}
use Rattle.task.specs.Adding.{Verdict, fits, unfit, too_many, point_verdict, evicting_verdict}
use Rattle.taskformat.specs.Reading.{Step, taken, ended, wrong, taken_if, point_step, is_empty, step, number_at, point_of}
use Rattle.taskfile.specs.Answers.{step_said, KeptUnlessTaken, Stepped}
use Rattle.taskfile.specs.declared.step.Progress.{Progress}
use Rattle.taskfile.specs.declared.step.Progress.TheVariants as progress
use Rattle.taskfile.specs.declared.fault.TaskCause.{TaskCause}
use Rattle.taskfile.specs.declared.fault.TaskFault.{TaskFault}
use Rattle.taskfile.specs.declared.fault.TaskFault.TheVariants as faults
use Rattle.std.specs.Result.{MatchResult, IsErrAnd}

abbrev Ends : Step → Type 0
Ends (taken u) = ⊥
Ends ended = Unit {0}
Ends (wrong k) = ⊥

goes_on : (v : Verdict) (u : TaskContents) → Ends (taken_if v u) → ⊥
goes_on fits u h = h
goes_on unfit u h = h
goes_on too_many u h = h

point_goes_on : (t : TaskContents) (o : Option PointContents) → Ends (point_step t o) → ⊥
point_goes_on t None h = h
point_goes_on t (Some p) h = goes_on (point_verdict t p) (add_point t p) h

after_point : (v : Bool) → Ends (cond v (wrong 3) ended) → v ≡ false
after_point true h = absurd h
after_point false h = refl

ends_after : (t : TaskContents) (f : FieldContents) → Ends (step t f) → is_empty t.points ≡ false
ends_after t (header body) h = absurd h
ends_after t (point body) h = absurd (cond_both (is_empty t.evicting) (point_step t (point_of body)) (wrong 3) (λ s. Ends s → ⊥) (λ _. point_goes_on t (point_of body)) (λ _ z. z) h)
ends_after t (evicting body) h =
    let n = number_at body 0 in
    absurd (cond_both (is_empty t.points) (wrong 3) (taken_if (evicting_verdict t n) (add_evicting t n)) (λ s. Ends s → ⊥) (λ _ z. z) (λ _. goes_on (evicting_verdict t n) (add_evicting t n)) h)
ends_after t end h = after_point (is_empty t.points) h

-- a field that ends a file comes after a point
pub ended_after_point : (t : TaskContents) (f : FieldContents) → ended ≡ step t f → is_empty t.points ≡ false
ended_after_point t f e = ends_after t f (subst Ends e tt)

-- what was said of a field, where its progress is known
pub ended_said : (p : Progress) (t u : TaskContents) (s : Step) → p ≡ progress.Ended → step_said (Ok p) u ≡ s → KeptUnlessTaken (Ok p) t u → (ended ≡ s) × (u ≡ t)
ended_said progress.Taken t u s e h k = absurd (let z : ◌≡◌ {A = ℕ} 0 1 = cc in omega arith)
ended_said progress.Ended t u s e h k = (h, k)

pub taken_said : (p : Progress) (u : TaskContents) (s : Step) → p ≡ progress.Taken → step_said (Ok p) u ≡ s → taken u ≡ s
taken_said progress.Taken u s e h = h
taken_said progress.Ended u s e h = absurd (let z : ◌≡◌ {A = ℕ} 0 1 = cc in omega arith)

pub as_stepped : (t : TaskContents) (f : FieldContents) (u : TaskContents) (q : Result Progress TaskCause) {r : Result Progress TaskCause} → r ≡ q → Stepped t f r u → Stepped t f q u
as_stepped t f u q e s = subst (λ (w : Result Progress TaskCause). Stepped t f w u) e s

-- what the answer on a field is, where the answer that goes on is known: the cause of a refusal comes with the place
module _ {Q : TaskCause → TaskFault → Type 0} (place : ℕ) (says : (cause : TaskCause) (f : TaskFault) → Q cause f → f ≡ faults.Task cause place) where
  pub went_on : (r : Result Progress TaskCause) (m : Result Progress TaskFault) (p : Progress) → MatchResult r (λ x. m ≡ Ok x) (λ cause. IsErrAnd m (Q cause)) → m ≡ Ok p → r ≡ Ok p
  went_on (Ok x) m p h e = let same : x ≡ p = cc in cc
  went_on (Err cause) (Ok x) p h e = absurd h
  went_on (Err cause) (Err f) p h e = absurd (let z : ◌≡◌ {A = ℕ} 0 1 = cc in omega arith)

  pub stopped : (r : Result Progress TaskCause) (m : Result Progress TaskFault) (f : TaskFault) → MatchResult r (λ x. m ≡ Ok x) (λ cause. IsErrAnd m (Q cause)) → m ≡ Err f
      → (cause : TaskCause) × (r ≡ Err cause) × (f ≡ faults.Task cause place)
  stopped (Ok x) m f h e = absurd (let z : ◌≡◌ {A = ℕ} 0 1 = cc in omega arith)
  stopped (Err cause) (Ok x) f h e = absurd h
  stopped (Err cause) (Err g) f h e = (cause, refl, let same : g ≡ f = cc in sym same ∙ says cause g h)
