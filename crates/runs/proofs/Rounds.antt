-- The rounds that a table takes, from a weight of the tables that they give. Assumes nothing.
use Rattle.std.proofs.Common.{◌≡◌, ℕ, zero, suc, ◌+◌, ◌≤◌, false, eqb, length, Some, None, Option, sym, ap, ◌∙◌, subst, arith}
use Rattle.std.specs.List.{AllByRecursion}
use Rattle.std.proofs.lemmas.Bool.{eqb-false}
use Rattle.task.specs.Contents.{TaskContents}
use Rattle.fixpoint.specs.Kinds.{Meaning, Laws}
use Rattle.fixpoint.specs.Rounds.{Job, after_rounds}
use Rattle.fixpoint.specs.Settled.{settled_table}
use Rattle.fixpoint.proofs.Ranks.{Moving, few_rounds, moving_more}
use Rattle.fixpoint.proofs.Settling.{settled}
use Rattle.fixpoint.proofs.Still.{still}
use Rattle.cells.specs.Cells.{total}
use Rattle.rowkinds.specs.BlockSets.{block_sets, filled_up}
use Rattle.rowkinds.specs.Laws.{ages_laws}
use Rattle.blocksets.specs.declared.BlockSet.{BlockSet}
use Rattle.conflicts.specs.Conflicts.{conflict_list}
use Rattle.conflicts.specs.declared.Conflicts.{Conflicts}
use Rattle.conflicts.specs.Laws.{conflicts_laws}
use Rattle.widest.specs.Laws.{next_uses_laws}
use Rattle.tables.specs.Tables.{access_notes, age_job, age_kind, blocks, conflict_kind, next_use_job, next_use_kind, reuse_job, settled_conflicts}
use Rattle.tables.proofs.OwnNotes.{own_access_notes, own_use_notes}
use Rattle.runs.specs.Runs.{RoundsTaken, Takes}

module _ {Row Note : Type 0} (M : Meaning Row Note) (J : Job Note) (weight : Row → ℕ) where
  -- each of the first r rounds changed the sum of the weights
  abbrev Changed : ℕ → Type 0
  Changed zero = Unit {0}
  Changed (suc r) = Changed r × (eqb (total weight (after_rounds M J (suc r))) (total weight (after_rounds M J r)) ≡ false)

  -- and the next one changed nothing
  abbrev pub Counted : ℕ → Type 0
  Counted r = Changed r × (after_rounds M J (suc r) ≡ after_rounds M J r)

  moving : (r : ℕ) → Changed r → Moving M J r
  moving zero c = λ k l e. absurd (omega arith)
  moving (suc r) c =
      let e : r + 1 ≡ suc r = omega arith in
      subst (Moving M J) e (moving_more M J r (moving r c.0) (λ same. eqb-false _ _ c.1 (ap (total weight) same)))

  takes : (r : ℕ) → Laws M → AllByRecursion M.own_note J.notes → Counted r → Takes M J (suc r)
  takes r L own_notes c =
      let few = few_rounds M L J own_notes r (moving r c.0) in
      settled M L J own_notes r (settled_table M J) (moving r c.0) (still M J r (omega arith) c.1 ∙ sym c.1) c.1

-- the weight of a row of conflict sets, for which no members are counted
abbrev mask : Option BlockSet → ℕ
mask None = 0
mask (Some s) = suc s.mask

abbrev masks : Conflicts → ℕ
masks row = total mask (conflict_list row)

-- the rounds before the idle one in each of the four tables of a task
pub record AllCounted (t : TaskContents) (ages reuses conflicts widest : ℕ) : Type 0 where
  pub for_ages : Counted (age_kind t) (age_job t) (age_kind t).rank ages
  pub for_reuses : Counted (age_kind t) (reuse_job t) (age_kind t).rank reuses
  pub for_conflicts : Counted (conflict_kind t) (age_job t) masks conflicts
  pub for_widest : Counted (next_use_kind t) (next_use_job t) (next_use_kind t).rank widest

pub rounds_taken : (t : TaskContents) (a r c w : ℕ) → length (blocks t) ≤ 64 → AllCounted t a r c w → RoundsTaken t (suc a) (suc r) (suc c) (suc w)
rounds_taken t a r c w few counted =
    let n = length (blocks t) in
    let sets = filled_up 64 (block_sets t) in
    let notes = own_access_notes t in
    let conflicts = takes (conflict_kind t) (age_job t) masks c (conflicts_laws n sets) notes counted.for_conflicts in
    let uses = own_use_notes n few sets (settled_conflicts t) (access_notes t) conflicts.own.own notes in
    record {
      for_ages = takes (age_kind t) (age_job t) (age_kind t).rank a (ages_laws t.ways n sets) notes counted.for_ages;
      for_reuses = takes (age_kind t) (reuse_job t) (age_kind t).rank r (ages_laws t.ways n sets) notes counted.for_reuses;
      for_conflicts = conflicts;
      for_widest = takes (next_use_kind t) (next_use_job t) (next_use_kind t).rank w (next_uses_laws n) uses counted.for_widest;
    }
