-- The four settled tables of a task.
use Rattle.std.specs.Prelude.{ℕ, List, [], ◌∷◌, map, length, Some, None, Option, slice_index_or}
use Rattle.task.specs.Blocks.{access_index, distinct_blocks}
use Rattle.task.specs.Contents.{TaskContents}
use Rattle.fixpoint.specs.Kinds.{Meaning}
use Rattle.fixpoint.specs.Rounds.{Job, job_of}
use Rattle.fixpoint.specs.Settled.{settled_table}
use Rattle.fixpoint.specs.declared.direction.Direction.TheVariants.{Forward, Backward}
use Rattle.rowkinds.specs.Ages.{ages_meaning}
use Rattle.rowkinds.specs.BlockSets.{block_sets, filled_up}
use Rattle.rowkinds.specs.declared.ages.Ages.{Ages}
use Rattle.blocksets.specs.Members.{size}
use Rattle.blocksets.specs.declared.BlockSet.{BlockSet}
use Rattle.conflicts.specs.Conflicts.{conflict_list, conflicts_meaning}
use Rattle.conflicts.specs.declared.Conflicts.{Conflicts}
use Rattle.widest.specs.NextUses.{next_uses_meaning}
use Rattle.widest.specs.declared.next_uses.NextUse.{NextUse}
use Rattle.widest.specs.declared.next_uses.NextUses.{NextUses}

abbrev pub blocks : TaskContents → List ℕ
blocks t = distinct_blocks t.points

-- the kinds of a task's rows
abbrev pub age_kind : TaskContents → Meaning Ages (Option ℕ)
age_kind t = ages_meaning t.ways (length (blocks t)) (filled_up 64 (block_sets t))

abbrev pub conflict_kind : TaskContents → Meaning Conflicts (Option ℕ)
conflict_kind t = conflicts_meaning (length (blocks t)) (filled_up 64 (block_sets t))

abbrev pub next_use_kind : TaskContents → Meaning NextUses (Option NextUse)
next_use_kind t = next_uses_meaning (length (blocks t))

-- the note of a point for ages, reuse distances and conflict sets: the index of the block that it accesses, or none
abbrev pub access_notes : TaskContents → List (Option ℕ)
access_notes t = map (λ p. access_index (blocks t) p.access) t.points

abbrev pub age_job : TaskContents → Job (Option ℕ)
age_job t = job_of Forward t.points (access_notes t)

abbrev pub reuse_job : TaskContents → Job (Option ℕ)
reuse_job t = job_of Backward t.points (access_notes t)

-- ages before each point
abbrev pub settled_ages : TaskContents → List Ages
settled_ages t = settled_table (age_kind t) (age_job t)

-- reuse distances after each point
abbrev pub settled_reuses : TaskContents → List Ages
settled_reuses t = settled_table (age_kind t) (reuse_job t)

-- conflict sets before each point
abbrev pub settled_conflicts : TaskContents → List Conflicts
settled_conflicts t = settled_table (conflict_kind t) (age_job t)

abbrev pub size_of : Option BlockSet → Option ℕ
size_of None = None
size_of (Some s) = Some (size s)

-- the note of a point for widest next uses: the block that it accesses, with how many blocks conflict with it there
abbrev pub use_note : Conflicts → Option ℕ → Option NextUse
use_note row None = None
use_note row (Some b) = Some (record { block = b; conflicts = size_of (slice_index_or (conflict_list row) b None) })

abbrev pub use_notes : List Conflicts → List (Option ℕ) → List (Option NextUse)
use_notes [] notes = []
use_notes (row ∷ rows) [] = []
use_notes (row ∷ rows) (note ∷ notes) = use_note row note ∷ use_notes rows notes

abbrev pub next_use_job : TaskContents → Job (Option NextUse)
next_use_job t = job_of Backward t.points (use_notes (settled_conflicts t) (access_notes t))

-- widest next uses after each point
abbrev pub settled_widest : TaskContents → List NextUses
settled_widest t = settled_table (next_use_kind t) (next_use_job t)
