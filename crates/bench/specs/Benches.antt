-- What a bench says and does at a call, on any cache.
use Rattle.std.specs.Prelude.{◌≡◌, ℕ, Bool, true, false, List, Some, None, Ok, Err, Option, Result}
use Rattle.recency.specs.Rows.{row_step}
use Rattle.task.specs.Contents.{TaskContents}
use Rattle.tables.specs.Answers.{AllSettled}
use Rattle.tables.specs.Rows.{Rows}
use Rattle.tables.specs.declared.Rounds.{Rounds}
use Rattle.cache.specs.LruState.{lru_row}
use Rattle.cache.specs.Outcomes.{outcome_of}
use Rattle.cache.specs.declared.Cache.{Ghosts}
use Rattle.cache.specs.declared.outcome.Outcome.{Outcome}
use Rattle.cache.specs.declared.outcome.Outcome.TheVariants.{Hit, Miss}
use Rattle.ledger.specs.Ledger.{Setting, Ledger, accessed, after, barred, cause, ledger_with}
use Rattle.ledger.specs.Histories.{Heard, Honest, LoadsWithin, ledger_of, row_after}
use Rattle.ledger.specs.declared.Call.{Call}
use Rattle.ledger.specs.declared.State.{State}
use Rattle.ledger.specs.declared.Call.TheVariants.{Step, Finish, Interrupt, Touch, Resume}
use Rattle.bench.specs.Faults.{fault_number}
use Rattle.bench.specs.Keeping.{setting_in}
use Rattle.bench.specs.declared.Bench.{Bench}
use Rattle.bench.specs.declared.answer.Answer.{Answer}
use Rattle.bench.specs.declared.answer.Answer.TheVariants.{Access, NoAccess, Done}
use Rattle.bench.specs.declared.fault.BenchFault.{BenchFault}

abbrev pub setting_of : {C : Type 0} {g : Ghosts C} → Bench C g → Setting
setting_of b = setting_in b.setup

abbrev pub ledger_in : {C : Type 0} {g : Ghosts C} → Bench C g → Ledger
ledger_in b = ledger_with b.state b.point b.counts (lru_row b.plain)

-- the tables of a new bench: settled after some rounds, or as they were where the bench is barred
abbrev pub BuiltWhere : Option ℕ → TaskContents → Rows → Rows → Type 0
BuiltWhere None t before after = (rounds : Rounds) × AllSettled t before after rounds
BuiltWhere (Some n) t before after = after ≡ before

abbrev pub Built : Setting → Rows → Rows → Type 0
Built S before after = BuiltWhere (barred S) S.task before after

-- the hit or miss that the ledger is fed
abbrev pub said_hit : Result Answer BenchFault → Bool
said_hit (Ok (Access Hit)) = true
said_hit (Ok (Access Miss)) = false
said_hit (Ok NoAccess) = false
said_hit (Ok Done) = false
said_hit (Err f) = false

-- a miss loads its block
abbrev pub loads_of : Outcome → ℕ
loads_of Hit = 0
loads_of Miss = 1

-- what an obeyed call without access says
abbrev pub quiet : Call → Answer
quiet (Step q) = NoAccess
quiet Finish = NoAccess
quiet Interrupt = Done
quiet (Touch b) = Done
quiet Resume = Done

-- the answer of an obeyed call: the outcome of the access, which is the cache's own: hit where it held the block; or what
-- is said where there is none
abbrev pub answer_of : (ℕ → Bool) → Answer → Option ℕ → Answer
answer_of holds silent None = silent
answer_of holds silent (Some b) = Access (outcome_of (holds b))

-- the refusal, by its number, or the answer
abbrev pub Says : Option ℕ → Option ℕ → Call → (ℕ → Bool) → Result Answer BenchFault → Type 0
Says (Some n) block call holds (Ok a) = ⊥
Says (Some n) block call holds (Err f) = fault_number f ≡ n
Says None block call holds (Err f) = ⊥
Says None block call holds (Ok a) = a ≡ answer_of holds (quiet call) block

-- a refused call leaves all as it was
abbrev pub Stays : {X : Type 0} → Result Answer BenchFault → X → X → Type 0
Stays (Ok a) before after = Unit {0}
Stays (Err f) before after = after ≡ before

module _ {C : Type 0} (g : Ghosts C) where
  -- the cache after an access of a block, or as it was
  abbrev pub Accesses : Option ℕ → C → C → Type 0
  Accesses None c d = d ≡ c
  Accesses (Some b) c d =
      (g.sets d ≡ g.sets c) × (g.life d ≡ g.life c) × (g.holds d b ≡ true) × ((row : List (List ℕ)) → g.vouches c row → g.vouches d (row_step (g.sets c) (g.life c) b row))

  -- a call, from one cache and ledger to the next
  pub record Called (S : Setting) (call : Call) (c : C) (L : Ledger) (r : Result Answer BenchFault) (d : C) (M : Ledger) : Type 0 where
    pub says : Says (cause S L call) (accessed S L call) call (g.holds c) r
    pub counts : M ≡ after S L call (said_hit r)
    pub accesses : Accesses (accessed S L call) c d

  -- some history of calls explains the cache and the ledger: the ledger is that of the history, the cache vouches for its
  -- row, and no block of the row ever missed
  pub record Explained (S : Setting) (c : C) (L : Ledger) : Type 0 where
    pub history : List Heard
    pub ledger : ledger_of S history ≡ L
    pub honest : Honest S history
    pub same_sets : g.sets c ≡ S.sets
    pub same_life : g.life c ≡ S.life
    pub vouched : g.vouches c (row_after S history)

module _ {C : Type 0} {g : Ghosts C} where
  -- the same, of a bench
  abbrev pub Calls : Bench C g → Call → Result Answer BenchFault → Bench C g → Type 0
  Calls b call r d = Called g (setting_of b) call b.cache (ledger_in b) r d.cache (ledger_in d)

  abbrev pub IsExplained : Bench C g → Type 0
  IsExplained b = Explained g (setting_of b) b.cache (ledger_in b)

  -- nothing bars the bench, and it is in this state
  pub record IsOpenIn (b : Bench C g) (s : State) : Type 0 where
    pub unbarred : barred (setting_of b) ≡ None
    pub state : b.state ≡ s

  -- what a bench does at a call
  pub record Performs (b : Bench C g) (call : Call) (r : Result Answer BenchFault) (d : Bench C g) : Type 0 where
    pub called : Calls b call r d
    pub setting : setting_of d ≡ setting_of b
    pub refused : Stays r b d

  -- and what follows from it, where the bench came from a new one by calls
  pub record Obeys (b : Bench C g) (call : Call) (r : Result Answer BenchFault) (d : Bench C g) : Type 0 where
    pub called : Calls b call r d
    pub setting : setting_of d ≡ setting_of b
    pub refused : Stays r b d
    pub explained : IsExplained b → IsExplained d
    pub bounded : IsExplained d → LoadsWithin (ledger_in d)
