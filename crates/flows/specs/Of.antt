-- A task and its settled tables by points and blocks.
use Rattle.std.specs.Prelude.{ℕ, suc, cond, List, [], ◌∷◌, get_or, Some, None, Option, ◌==◌, slice_index, slice_index_or}
use Rattle.task.specs.Blocks.{access_at}
use Rattle.task.specs.Contents.{TaskContents, point_with}
use Rattle.rowkinds.specs.Ages.{age_list}
use Rattle.rowkinds.specs.declared.ages.Ages.{Ages}
use Rattle.blocksets.specs.Digits.{digit}
use Rattle.blocksets.specs.declared.BlockSet.{BlockSet}
use Rattle.conflicts.specs.Conflicts.{conflict_list}
use Rattle.widest.specs.NextUses.{count_list}
use Rattle.tables.specs.Tables.{age_kind, blocks, conflict_kind, next_use_kind, settled_ages, settled_reuses, settled_conflicts, settled_widest}
use Rattle.soundness.specs.Flows.{Flow, Findings}

abbrev pub flow_of : TaskContents → Flow
flow_of t = record {
  sets = t.sets;
  ways = t.ways;
  access = access_at t.points;
  successors = λ p. (get_or t.points p (point_with None [])).successors;
  evicting = t.evicting;
  blocks = blocks t;
}

-- where a block stands in a list, or past its end
abbrev pub index : ℕ → List ℕ → ℕ
index x [] = 0
index x (y ∷ ys) = cond (x == y) 0 (suc (index x ys))

-- those of a list's blocks whose index, counted from i, is in a set
abbrev pub members_from : ℕ → BlockSet → List ℕ → List ℕ
members_from i s [] = []
members_from i s (b ∷ bs) = cond (digit s.mask i == 1) (b ∷ members_from (suc i) s bs) (members_from (suc i) s bs)

abbrev pub members : List ℕ → Option BlockSet → Option (List ℕ)
members bs None = None
members bs (Some s) = Some (members_from 0 s bs)

abbrev pub age_of : TaskContents → Ages → ℕ → ℕ
age_of t row x = slice_index (age_list row) (index x (blocks t))

abbrev pub findings_of : TaskContents → Findings
findings_of t = record {
  age = λ p x. age_of t (slice_index_or (settled_ages t) p (age_kind t).start) x;
  reuse = λ p x. age_of t (slice_index_or (settled_reuses t) p (age_kind t).start) x;
  conflicts = λ p x. members (blocks t) (slice_index_or (conflict_list (slice_index_or (settled_conflicts t) p (conflict_kind t).start)) (index x (blocks t)) None);
  widest = λ p x. slice_index_or (count_list (slice_index_or (settled_widest t) p (next_use_kind t).start)) (index x (blocks t)) None;
}
