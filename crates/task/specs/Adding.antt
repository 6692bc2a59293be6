-- How a task is put together: which points and evicting blocks are taken, and when it is whole.
use Rattle.std.specs.Prelude.{ℕ, cond, List, [], ◌∷◌, ◌++◌, length, Some, None, Option, nat_le}
use Rattle.task.specs.Contents.{PointContents, TaskContents}
use Rattle.task.specs.Legal.{few_points, legal_evicting, few_evicting, first_open}

pub data Verdict : Type 0 where
  fits : Verdict
  -- out of range, or not above the one before
  unfit : Verdict
  too_many : Verdict

abbrev pub point_verdict : TaskContents → PointContents → Verdict
point_verdict t p = cond (few_points (t.points ++ (p ∷ []))) fits too_many

-- the value is tested before the number
abbrev pub evicting_verdict : TaskContents → ℕ → Verdict
evicting_verdict t b = cond (legal_evicting (t.evicting ++ (b ∷ []))) (cond (few_evicting (t.evicting ++ (b ∷ []))) fits too_many) unfit

-- what stays of t where a change was judged
abbrev pub changed_if : Verdict → TaskContents → TaskContents → TaskContents
changed_if fits changed t = changed
changed_if unfit changed t = t
changed_if too_many changed t = t

pub data Completion : Type 0 where
  whole : Completion
  no_point : Completion
  -- the lowest point that names a point which is not there
  open_at : ℕ → Completion

abbrev pub closing : Option ℕ → Completion
closing None = whole
closing (Some k) = open_at k

abbrev pub completion : List PointContents → Completion
completion ps = cond (nat_le 1 (length ps)) (closing (first_open ps)) no_point
