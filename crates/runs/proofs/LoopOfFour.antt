-- The loop of four: its sheet, and the rounds of its tables. Assumes nothing.
use Rattle.std.proofs.Common.{◌≡◌, ℕ, List, [], ◌∷◌, Some, None, Option, sym, refl, subst, arith}
use Rattle.task.specs.Contents.{TaskContents}
use Rattle.fixpoint.specs.Rounds.{after_rounds, job_of, merged_below, visits}
use Rattle.fixpoint.specs.Settled.{settled_table}
use Rattle.fixpoint.specs.declared.direction.Direction.TheVariants.{Backward}
use Rattle.blocksets.specs.Members.{size}
use Rattle.widest.specs.declared.next_uses.NextUse.{NextUse}
use Rattle.tables.specs.Tables.{access_notes, next_use_kind, settled_conflicts, use_notes}
use Rattle.analysis.specs.Sheets.{sheet_below}
use Rattle.runs.specs.Runs.{LoopOfFour}
use Rattle.runs.specs.Tasks.{four_in_a_loop}
use Rattle.runs.proofs.Rounds.{AllCounted, Counted, rounds_taken}

abbrev loop : TaskContents
loop = four_in_a_loop (14 ∷ [])

-- the three other blocks conflict with the one that is accessed
abbrev noted : ℕ → Option NextUse
noted b = Some (record { block = b; conflicts = Some 3 })

-- the notes for widest next uses
abbrev notes : List (Option NextUse)
notes = noted 0 ∷ noted 1 ∷ noted 2 ∷ noted 3 ∷ None ∷ []

notes_settled : use_notes (settled_conflicts loop) (access_notes loop) ≡ notes
unfolding settled_table after_rounds visits merged_below size
notes_settled = refl

-- the rounds with these notes, which need no table of conflict sets
abbrev WidestCounted : List (Option NextUse) → Type 0
WidestCounted ns = Counted (next_use_kind loop) (job_of Backward loop.points ns) (next_use_kind loop).rank 2

widest_counted : WidestCounted notes
unfolding after_rounds visits merged_below
widest_counted = (((tt, refl), refl), refl)

counted : AllCounted loop 2 2 2 2
unfolding after_rounds visits merged_below
counted = record {
  for_ages = (((tt, refl), refl), refl);
  for_reuses = (((tt, refl), refl), refl);
  for_conflicts = (((tt, refl), refl), refl);
  for_widest = subst WidestCounted (sym notes_settled) widest_counted;
}

pub of_four : LoopOfFour
unfolding settled_table after_rounds visits merged_below size sheet_below
of_four = record { whole = refl; rounds = rounds_taken loop 2 2 2 2 (omega arith) counted }
