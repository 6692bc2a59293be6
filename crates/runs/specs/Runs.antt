-- Reference runs: what the definitions give for a few tasks, files and accesses.
use Rattle.std.specs.Prelude.{◌≡◌, ℕ, List, [], ◌∷◌, Some, codes}
use Rattle.task.specs.Contents.{TaskContents}
use Rattle.fixpoint.specs.Kinds.{Meaning}
use Rattle.fixpoint.specs.Rounds.{Job}
use Rattle.fixpoint.specs.Settled.{Settled, settled_table}
use Rattle.tables.specs.Rows.{numbers_at, settled_rows}
use Rattle.tables.specs.Tables.{age_job, age_kind, conflict_kind, next_use_job, next_use_kind, reuse_job}
use Rattle.analysis.specs.Sheets.{sheet}
use Rattle.sheettext.specs.Printed.{printed}
use Rattle.plru.specs.Sets.{empty_set, plru_run}
use Rattle.numbers.specs.declared.PointNumbers.{PointNumbers}
use Rattle.recency.specs.Rows.{empty_row}
use Rattle.ledger.specs.Ledger.{Ledger, Setting, cause, counts_of, new_ledger}
use Rattle.ledger.specs.declared.Call.TheVariants.{Step, Interrupt, Touch, Resume}
use Rattle.runs.specs.OnLru.{ledger_on_lru, lru_setting}
use Rattle.runs.specs.Words.{fifo_misses, figures}
use Rattle.runs.specs.Tasks.{four_in_a_loop, there_and_back, three_in_a_loop}

-- settling a table takes so many rounds: the last one changes nothing, and each one before it changes something
abbrev pub Takes : {Row Note : Type 0} → Meaning Row Note → Job Note → ℕ → Type 0
Takes M J rounds = Settled M J rounds (settled_table M J)

-- the rounds that settling the tables of ages, reuse distances, conflict sets and widest next uses of a task takes
pub record RoundsTaken (t : TaskContents) (ages reuses conflicts widest : ℕ) : Type 0 where
  pub for_ages : Takes (age_kind t) (age_job t) ages
  pub for_reuses : Takes (age_kind t) (reuse_job t) reuses
  pub for_conflicts : Takes (conflict_kind t) (age_job t) conflicts
  pub for_widest : Takes (next_use_kind t) (next_use_job t) widest

-- the four numbers of point p of a task
abbrev pub figures_at : TaskContents → ℕ → PointNumbers
figures_at t p = numbers_at t (settled_rows t) p

-- In a loop of four blocks, which fill the four ways, one evicting block costs all four; each table takes three rounds.
pub record LoopOfFour : Type 0 where
  pub whole : sheet (four_in_a_loop (14 ∷ [])) ≡ figures 4 4 4 4 ∷ figures 4 4 4 4 ∷ figures 4 4 4 4 ∷ figures 4 4 4 4 ∷ figures 0 4 0 0 ∷ []
  pub rounds : RoundsTaken (four_in_a_loop (14 ∷ [])) 3 3 3 3

-- In a loop of three blocks, one evicting block still fits into the four ways, and a second one costs all three.
pub record LoopOfThree : Type 0 where
  pub one : figures_at (three_in_a_loop (14 ∷ [])) 0 ≡ figures 3 4 3 0
  pub two : figures_at (three_in_a_loop (14 ∷ 15 ∷ [])) 0 ≡ figures 3 4 3 3

-- In a line of accesses of 1 2 3 4 4 3 2 1, at the second access of 4, each further evicting block costs one more load.
pub record LineThereAndBack : Type 0 where
  pub one : (figures_at (there_and_back (11 ∷ [])) 4).resilient ≡ 1
  pub two : (figures_at (there_and_back (11 ∷ 12 ∷ [])) 4).resilient ≡ 2
  pub three : (figures_at (there_and_back (11 ∷ 12 ∷ 13 ∷ [])) 4).resilient ≡ 3
  pub all_four : (figures_at (there_and_back (11 ∷ 12 ∷ 13 ∷ 14 ∷ [])) 4).resilient ≡ 4
  pub whole :
      sheet (there_and_back (11 ∷ []))
      ≡ figures 0 4 0 0 ∷ figures 1 4 1 1 ∷ figures 2 4 2 1 ∷ figures 3 4 3 1 ∷ figures 4 4 4 1 ∷ figures 3 4 3 1 ∷ figures 2 4 2 1 ∷ figures 1 4 1 1 ∷ []

-- the file of a task, a field to a line: the header with 2 sets, 1 way and reload time 10, three points, of which the first
-- two access the blocks 4 and 5 in a loop, the evicting block 6, and the end
abbrev pub sample : List ℕ
sample =
    1 ∷ 0 ∷ 6 ∷ 2 ∷ 1 ∷ 0 ∷ 0 ∷ 0 ∷ 10
    ∷ 2 ∷ 0 ∷ 6 ∷ 1 ∷ 0 ∷ 0 ∷ 0 ∷ 4 ∷ 1
    ∷ 2 ∷ 0 ∷ 7 ∷ 1 ∷ 0 ∷ 0 ∷ 0 ∷ 5 ∷ 0 ∷ 2
    ∷ 2 ∷ 0 ∷ 1 ∷ 0
    ∷ 3 ∷ 0 ∷ 4 ∷ 0 ∷ 0 ∷ 0 ∷ 6
    ∷ 4 ∷ 0 ∷ 0 ∷ []

-- For the sample file the program prints a header, a line for each of the three points, and the largest number with its cost.
pub record SampleFile : Type 0 where
  pub prints : printed sample ≡ codes "point useful evicting combined resilient\n0 2 1 1 1\n1 2 1 1 1\n2 0 1 0 0\nlargest 1 cost 10\n"

-- An empty file lacks a whole field, and a file of the end field alone does not begin with a header.
pub record RefusedFiles : Type 0 where
  pub empty_file : printed [] ≡ codes "refused fields 1 at 0\n"
  pub only_end : printed (4 ∷ 0 ∷ 0 ∷ []) ≡ codes "refused task 3 at 0\n"

-- A tree cache of one set and 4 ways takes the blocks 1 to 6 and then holds 5, 2, 6 and 4; in a FIFO cache of one set and 2
-- ways, one more access, of 9, costs four more misses.
pub record CacheRuns : Type 0 where
  pub tree : (plru_run 4 (1 ∷ 2 ∷ 3 ∷ 4 ∷ 5 ∷ 6 ∷ []) empty_set).blocks ≡ 5 ∷ 2 ∷ 6 ∷ 4 ∷ []
  pub fifo : fifo_misses 2 (1 ∷ 2 ∷ 1 ∷ 5 ∷ 2 ∷ 3 ∷ 5 ∷ []) [] ≡ 4
  pub fifo_more : fifo_misses 2 (1 ∷ 2 ∷ 9 ∷ 1 ∷ 5 ∷ 2 ∷ 3 ∷ 5 ∷ []) [] ≡ 8

-- the loop of four with one evicting block, on an LRU cache that is empty at first
abbrev pub loop_setting : Setting
loop_setting = lru_setting (four_in_a_loop (14 ∷ [])) 5

-- once round the loop, an interruption at its begin that accesses the evicting block, and once more round
abbrev pub interrupted_loop : Ledger
interrupted_loop =
    ledger_on_lru loop_setting
    (Step 1 ∷ Step 2 ∷ Step 3 ∷ Step 0 ∷ Interrupt ∷ Touch 14 ∷ Resume ∷ Step 1 ∷ Step 2 ∷ Step 3 ∷ Step 0 ∷ [])
    (new_ledger loop_setting) (empty_row 1)

-- All eight steps load, where four would without the interruption, and the charge is the other four; from point 0 no step leads
-- to point 4.
pub record InterruptedLoop : Type 0 where
  pub counts : interrupted_loop.counts ≡ counts_of 8 1 8 4 4
  pub refused : cause loop_setting interrupted_loop (Step 4) ≡ Some 18

-- All of them.
pub record ReferenceRuns : Type 0 where
  pub loop_of_four : LoopOfFour
  pub loop_of_three : LoopOfThree
  pub line_there_and_back : LineThereAndBack
  pub sample_file : SampleFile
  pub refused_files : RefusedFiles
  pub cache_runs : CacheRuns
  pub interrupted_loop_run : InterruptedLoop
