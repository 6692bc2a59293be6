-- What a ledger is fed, newest first, and what follows from it.
use Rattle.std.specs.Prelude.{◌≡◌, ℕ, ◌+◌, ◌≤◌, Bool, true, List, [], ◌∷◌, Some, None, Option}
use Rattle.recency.specs.Blocks.{has}
use Rattle.recency.specs.Rows.{empty_row, list_of}
use Rattle.task.specs.Legal.{legal}
use Rattle.ledger.specs.Ledger.{Setting, Ledger, accessed, after, new_ledger, row_moved}
use Rattle.ledger.specs.declared.Call.{Call}

-- a call, obeyed or refused, and whether its access hit
pub record Heard : Type 0 where
  pub call : Call
  pub hit : Bool

module _ (S : Setting) where
  -- the ledger after a history
  abbrev pub ledger_of : List Heard → Ledger
  ledger_of [] = new_ledger S
  ledger_of (x ∷ h) = after S (ledger_of h) x.call x.hit

  -- a row of LRU lists, empty at first, moved by every access of the history, of the task and of the interruptions
  abbrev pub row_after : List Heard → List (List ℕ)
  row_after [] = empty_row S.sets
  row_after (x ∷ h) = row_moved S.sets S.life (accessed S (ledger_of h) x.call) (row_after h)

  -- where the row has the block of an access, it hit
  abbrev pub HitsWhatTheRowHas : Option ℕ → Bool → List (List ℕ) → Type 0
  HitsWhatTheRowHas None hit row = Unit {0}
  HitsWhatTheRowHas (Some b) hit row = has b (list_of S.sets b row) ≡ true → hit ≡ true

  -- so at each access of the history
  abbrev pub Honest : List Heard → Type 0
  Honest [] = Unit {0}
  Honest (x ∷ h) = HitsWhatTheRowHas (accessed S (ledger_of h) x.call) x.hit (row_after h) × Honest h

-- loads are at most plain loads plus charge
abbrev pub LoadsWithin : Ledger → Type 0
LoadsWithin L = L.counts.loads ≤ L.counts.plain + L.counts.charge

-- The theorem: for every legal task, every room of the tables, sets and life of a cache, and every history of calls in which a
-- block of the row never misses, loads are at most plain loads plus charge.
abbrev pub LoadsAreBounded : Type 0
LoadsAreBounded = (S : Setting) → legal S.task ≡ true → (h : List Heard) → Honest S h → LoadsWithin (ledger_of S h)
