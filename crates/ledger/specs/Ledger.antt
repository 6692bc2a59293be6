-- The ledger of a bench: which calls it refuses and what it counts, from the task, the calls, and the cache's hits and
-- misses at the accesses of steps and finishes.
use Rattle.std.specs.Prelude.{ℕ, ◌+◌, Bool, true, false, cond, List, [], ◌∷◌, length, Some, None, Option, ◌==◌, nat_lt, slice_index_or}
use Rattle.recency.specs.Blocks.{has}
use Rattle.recency.specs.Rows.{empty_row, list_of, row_step}
use Rattle.task.specs.Blocks.{access_at}
use Rattle.task.specs.Contents.{PointContents, TaskContents, point_with}
use Rattle.tables.specs.Rows.{numbers_at, settled_rows}
use Rattle.ledger.specs.declared.Call.{Call}
use Rattle.ledger.specs.declared.Call.TheVariants.{Step, Finish, Interrupt, Touch, Resume}
use Rattle.ledger.specs.declared.Counts.{Counts}
use Rattle.ledger.specs.declared.State.{State}
use Rattle.ledger.specs.declared.State.TheVariants.{Walking, Interrupted, Ended}

-- what stays from call to call: the task, the rows of the shortest table, and the sets and life of the cache
pub record Setting : Type 0 where
  pub task : TaskContents
  pub room : ℕ
  pub sets : ℕ
  pub life : ℕ

-- the state, the point, the counts, and a plain LRU list for each set of the task
pub record Ledger : Type 0 where
  pub state : State
  pub point : ℕ
  pub counts : Counts
  pub plain : List (List ℕ)

abbrev pub counts_of : ℕ → ℕ → ℕ → ℕ → ℕ → Counts
counts_of steps interruptions loads plain charge =
    record { steps = steps; interruptions = interruptions; loads = loads; plain = plain; charge = charge }

abbrev pub ledger_with : State → ℕ → Counts → List (List ℕ) → Ledger
ledger_with state point counts plain = record { state = state; point = point; counts = counts; plain = plain }

abbrev pub new_ledger : Setting → Ledger
new_ledger S = ledger_with Walking 0 (counts_of 0 0 0 0 0) (empty_row S.task.sets)

abbrev pub successors_at : List PointContents → ℕ → List ℕ
successors_at points p = (slice_index_or points p (point_with None [])).successors

abbrev pub is_exit : List ℕ → Bool
is_exit [] = true
is_exit (q ∷ qs) = false

-- why no call is obeyed: a table shorter than the points (10), other sets (14), another life than the task's ways (15)
abbrev pub barred : Setting → Option ℕ
barred S =
    cond (nat_lt S.room (length S.task.points)) (Some 10)
    (cond (S.sets == S.task.sets) (cond (S.life == S.task.ways) None (Some 15)) (Some 14))

abbrev pub unless : Bool → ℕ → Option ℕ
unless true number = None
unless false number = Some number

-- 60,000 steps and 1,000 interruptions are the most
abbrev pub step_cause : Setting → Ledger → ℕ → Option ℕ
step_cause S L q = cond (nat_lt L.counts.steps 60000) (unless (has q (successors_at S.task.points L.point)) 18) (Some 21)

abbrev pub finish_cause : Setting → Ledger → Option ℕ
finish_cause S L = cond (nat_lt L.counts.steps 60000) (unless (is_exit (successors_at S.task.points L.point)) 19) (Some 21)

-- what the state and the call say of a bench that is not barred
abbrev pub cause_in : Setting → Ledger → State → Call → Option ℕ
cause_in S L Walking (Step q) = step_cause S L q
cause_in S L Walking Finish = finish_cause S L
cause_in S L Walking Interrupt = unless (nat_lt L.counts.interruptions 1000) 22
cause_in S L Walking (Touch b) = Some 17
cause_in S L Walking Resume = Some 17
cause_in S L Interrupted (Step q) = Some 16
cause_in S L Interrupted Finish = Some 16
cause_in S L Interrupted Interrupt = Some 16
cause_in S L Interrupted (Touch b) = unless (has b S.task.evicting) 20
cause_in S L Interrupted Resume = None
cause_in S L Ended call = Some 23

abbrev pub or_else : Option ℕ → Option ℕ → Option ℕ
or_else None other = other
or_else (Some n) other = Some n

-- the number by which a call is refused, or none
abbrev pub cause : Setting → Ledger → Call → Option ℕ
cause S L call = or_else (barred S) (cause_in S L L.state call)

-- the block that a call accesses where it is obeyed
abbrev pub block_of : Setting → Ledger → Call → Option ℕ
block_of S L (Step q) = access_at S.task.points L.point
block_of S L Finish = access_at S.task.points L.point
block_of S L Interrupt = None
block_of S L (Touch b) = Some b
block_of S L Resume = None

-- a load at a miss
abbrev pub load : Option ℕ → Bool → ℕ
load None hit = 0
load (Some b) hit = cond hit 0 1

-- a plain load where the block is not in its plain list
abbrev pub plain_load : ℕ → Option ℕ → List (List ℕ) → ℕ
plain_load sets None row = 0
plain_load sets (Some b) row = cond (has b (list_of sets b row)) 0 1

abbrev pub row_moved : ℕ → ℕ → Option ℕ → List (List ℕ) → List (List ℕ)
row_moved sets ways None row = row
row_moved sets ways (Some b) row = row_step sets ways b row

-- the resilient number of a point, by the settled tables of the task
abbrev pub resilient_at : TaskContents → ℕ → ℕ
resilient_at t p = (numbers_at t (settled_rows t) p).resilient

-- one more step, with the point's access, and what the state and point then are
abbrev pub stepped : Setting → Ledger → Bool → State → ℕ → Ledger
stepped S L hit state point =
    let b = access_at S.task.points L.point in
    let n = L.counts in
    ledger_with state point
    (counts_of (n.steps + 1) n.interruptions (n.loads + load b hit) (n.plain + plain_load S.task.sets b L.plain) n.charge)
    (row_moved S.task.sets S.task.ways b L.plain)

-- the ledger after an obeyed call
abbrev pub obeyed : Setting → Ledger → Call → Bool → Ledger
obeyed S L (Step q) hit = stepped S L hit Walking q
obeyed S L Finish hit = stepped S L hit Ended L.point
obeyed S L Interrupt hit =
    let n = L.counts in
    ledger_with Interrupted L.point (counts_of n.steps (n.interruptions + 1) n.loads n.plain (n.charge + resilient_at S.task L.point)) L.plain
obeyed S L (Touch b) hit = L
obeyed S L Resume hit = ledger_with Walking L.point L.counts L.plain

abbrev pub unless_refused : {X : Type 0} → Option ℕ → X → X → X
unless_refused None changed kept = changed
unless_refused (Some n) changed kept = kept

-- the ledger after a call, with the cache's hit or miss; a refused call leaves it
abbrev pub after : Setting → Ledger → Call → Bool → Ledger
after S L call hit = unless_refused (cause S L call) (obeyed S L call hit) L

-- the block that a call accesses, if it is obeyed and accesses one
abbrev pub accessed : Setting → Ledger → Call → Option ℕ
accessed S L call = unless_refused (cause S L call) (block_of S L call) None
