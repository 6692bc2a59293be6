-- From what the solver says of each table to the settled tables of the task. Assumes nothing.
use Rattle.std.proofs.Common.{◌≡◌, ℕ, ◌≤◌, List, length, take, Option, sym, ap, ◌∙◌, subst, arith, length-take}
use Rattle.std.specs.List.{AllByRecursion}
use Rattle.task.specs.Contents.{TaskContents}
use Rattle.fixpoint.specs.Kinds.{Meaning}
use Rattle.fixpoint.specs.Rounds.{job_of}
use Rattle.fixpoint.specs.Settled.{Settled}
use Rattle.fixpoint.specs.Answers.{Solved, job}
use Rattle.fixpoint.proofs.Steps.{length_after_rounds}
use Rattle.fixpoint.proofs.Value.{settled_value}
use Rattle.fixpoint.specs.declared.direction.Direction.{Direction}
use Rattle.rowkinds.specs.Ages.{ages_meaning}
use Rattle.rowkinds.specs.Laws.{ages_laws}
use Rattle.rowkinds.specs.BlockSets.{block_sets, filled_up}
use Rattle.rowkinds.specs.declared.ages.Ages.{Ages}
use Rattle.conflicts.specs.Conflicts.{conflicts_meaning}
use Rattle.conflicts.specs.Laws.{conflicts_laws}
use Rattle.conflicts.specs.declared.Conflicts.{Conflicts}
use Rattle.widest.specs.NextUses.{OwnUse, next_uses_meaning}
use Rattle.widest.specs.Laws.{next_uses_laws}
use Rattle.widest.specs.declared.next_uses.NextUse.{NextUse}
use Rattle.widest.specs.declared.next_uses.NextUses.{NextUses}
use Rattle.tables.specs.Tables.{access_notes, age_job, age_kind, blocks, conflict_kind, next_use_job, next_use_kind, reuse_job, settled_ages, settled_conflicts, settled_reuses, settled_widest, use_notes}
use Rattle.tables.specs.Rows.{Rows}
use Rattle.tables.specs.Answers.{AllSettled, Settles}
use Rattle.tables.specs.declared.Rounds.{Rounds}
use Rattle.tables.proofs.OwnNotes.{own_access_notes, own_use_notes}

settles : {Row Note : Type 0} (M : Meaning Row Note) (direction : Direction) (t : TaskContents) (notes all : List Note) (before after : List Row) (r : ℕ) → take (length t.points) notes ≡ all → AllByRecursion M.own_note all → Solved M direction t notes before after r → Settles M (job_of direction t.points all) before after r
settles M direction t notes all before after r e own s = record {
  room = s.room;
  settled = subst (λ ns. Settled M (job_of direction t.points ns) r (take (length t.points) after)) e (s.settled (subst (AllByRecursion M.own_note) (sym e) own));
  rest = s.rest;
}

module _ (t : TaskContents) (notes : List (Option ℕ)) (e : take (length t.points) notes ≡ access_notes t) (n : ℕ) (same : n ≡ length (blocks t)) where
  pub ages_settle : (direction : Direction) (before after : List Ages) (r ways : ℕ) (sets : List ℕ) → ways ≡ t.ways → sets ≡ filled_up 64 (block_sets t) → Solved (ages_meaning ways n sets) direction t notes before after r → Settles (age_kind t) (job_of direction t.points (access_notes t)) before after r
  ages_settle direction before after r ways sets w b s =
      settles (age_kind t) direction t notes (access_notes t) before after r e (own_access_notes t)
      (subst (λ k. Solved (ages_meaning t.ways k (filled_up 64 (block_sets t))) direction t notes before after r) same
      (subst (λ k. Solved (ages_meaning k n (filled_up 64 (block_sets t))) direction t notes before after r) w
      (subst (λ k. Solved (ages_meaning ways n k) direction t notes before after r) b s)))

  pub conflicts_settle : (direction : Direction) (before after : List Conflicts) (r : ℕ) (sets : List ℕ) → sets ≡ filled_up 64 (block_sets t) → Solved (conflicts_meaning n sets) direction t notes before after r → Settles (conflict_kind t) (job_of direction t.points (access_notes t)) before after r
  conflicts_settle direction before after r sets b s =
      settles (conflict_kind t) direction t notes (access_notes t) before after r e (own_access_notes t)
      (subst (λ k. Solved (conflicts_meaning k (filled_up 64 (block_sets t))) direction t notes before after r) same
      (subst (λ k. Solved (conflicts_meaning n k) direction t notes before after r) b s))

-- the conflict sets of a settled table, and the notes of widest next uses, read from them
module _ (t : TaskContents) (before after : List Conflicts) (r : ℕ) (conflicts : Settles (conflict_kind t) (age_job t) before after r) where
  settled_conflicts_value : take (length t.points) after ≡ settled_conflicts t
  settled_conflicts_value = settled_value (conflict_kind t) (conflicts_laws (length (blocks t)) (filled_up 64 (block_sets t))) (age_job t) (own_access_notes t) r (take (length t.points) after) conflicts.settled

module _ (t : TaskContents) (few : length (blocks t) ≤ 64) (before after : List Conflicts) (r : ℕ) (conflicts : Settles (conflict_kind t) (age_job t) before after r) where
  own_uses : AllByRecursion (OwnUse (length (blocks t))) (use_notes (settled_conflicts t) (access_notes t))
  own_uses =
      own_use_notes (length (blocks t)) few (filled_up 64 (block_sets t)) (settled_conflicts t) (access_notes t)
      (subst (AllByRecursion (conflict_kind t).own_row) (settled_conflicts_value t before after r conflicts) conflicts.settled.own.own) (own_access_notes t)

module _ (t : TaskContents) (few : length (blocks t) ≤ 64) (uses : List (Option NextUse)) (before after : List Conflicts) (r : ℕ) (conflicts : Settles (conflict_kind t) (age_job t) before after r) where
  pub widest_settle : (notes : List (Option ℕ)) → take (length t.points) notes ≡ access_notes t → take (length t.points) uses ≡ use_notes (take (length t.points) after) (take (length t.points) notes) → (direction : Direction) (old new : List NextUses) (k n : ℕ) → n ≡ length (blocks t) → Solved (next_uses_meaning n) direction t uses old new k → Settles (next_use_kind t) (job_of direction t.points (use_notes (settled_conflicts t) (access_notes t))) old new k
  widest_settle notes e u direction old new k n same s =
      settles (next_use_kind t) direction t uses (use_notes (settled_conflicts t) (access_notes t)) old new k
      (u ∙ ap (λ rows. use_notes rows (take (length t.points) notes)) (settled_conflicts_value t before after r conflicts) ∙ ap (use_notes (settled_conflicts t)) e)
      (own_uses t few before after r conflicts)
      (subst (λ m. Solved (next_uses_meaning m) direction t uses old new k) same s)

-- a table that was settled has a row for each point
pub solved_room : {Row Note : Type 0} (M : Meaning Row Note) (direction : Direction) (t : TaskContents) (notes : List Note) (before after : List Row) (r : ℕ) → Solved M direction t notes before after r → length t.points ≤ length after
solved_room M direction t notes before after r s =
    let e = ap length s.value ∙ length_after_rounds M (job direction t notes) r in
    let f = length-take (length t.points) after in
    omega arith

-- where all four tables are settled, they are the settled tables
module _ (t : TaskContents) (few : length (blocks t) ≤ 64) (before after : Rows) (rounds : Rounds) (all : AllSettled t before after rounds) where
  pub ages_value : take (length t.points) after.ages ≡ settled_ages t
  ages_value = settled_value (age_kind t) (ages_laws t.ways (length (blocks t)) (filled_up 64 (block_sets t))) (age_job t) (own_access_notes t) rounds.ages _ all.ages.settled

  pub reuses_value : take (length t.points) after.reuses ≡ settled_reuses t
  reuses_value = settled_value (age_kind t) (ages_laws t.ways (length (blocks t)) (filled_up 64 (block_sets t))) (reuse_job t) (own_access_notes t) rounds.reuses _ all.reuses.settled

  pub conflicts_value : take (length t.points) after.conflicts ≡ settled_conflicts t
  conflicts_value = settled_conflicts_value t before.conflicts after.conflicts rounds.conflicts all.conflicts

  pub widest_value : take (length t.points) after.widest ≡ settled_widest t
  widest_value =
      settled_value (next_use_kind t) (next_uses_laws (length (blocks t))) (next_use_job t)
      (own_uses t few before.conflicts after.conflicts rounds.conflicts all.conflicts) rounds.widest _ all.widest.settled
