-- What a task says. Code speaks of these records through `point_contents`, `draft_contents` and `contents` of `Meaning`.
use Rattle.std.specs.Prelude.{ℕ, List, [], ◌∷◌, ◌++◌, None, Option}

-- a point makes one access or none, and is followed by one of its successors; one without successors is an exit
pub record PointContents : Type 0 where
  pub access : Option ℕ
  pub successors : List ℕ

-- the cache that the task runs on, the time of one reload, the points (the first is the start), and the blocks
-- that an interrupting task may access
pub record TaskContents : Type 0 where
  pub sets : ℕ
  pub ways : ℕ
  pub reload : ℕ
  pub points : List PointContents
  pub evicting : List ℕ

abbrev pub point_with : Option ℕ → List ℕ → PointContents
point_with access successors = record { access = access; successors = successors }

abbrev pub task_with : ℕ → ℕ → ℕ → List PointContents → List ℕ → TaskContents
task_with sets ways reload points evicting = record { sets = sets; ways = ways; reload = reload; points = points; evicting = evicting }

abbrev pub add_point : TaskContents → PointContents → TaskContents
add_point t p = task_with t.sets t.ways t.reload (t.points ++ (p ∷ [])) t.evicting

abbrev pub add_evicting : TaskContents → ℕ → TaskContents
add_evicting t b = task_with t.sets t.ways t.reload t.points (t.evicting ++ (b ∷ []))

-- one set, one way, no reload time and one point without access or successor
abbrev pub blank_task : TaskContents
blank_task = task_with 1 1 0 (point_with None [] ∷ []) []
