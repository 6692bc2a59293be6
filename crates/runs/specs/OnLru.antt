-- Calls of a bench on an LRU cache.
use Rattle.std.specs.Prelude.{ℕ, Bool, false, List, [], ◌∷◌, Some, None, Option}
use Rattle.recency.specs.Blocks.{has}
use Rattle.recency.specs.Rows.{list_of}
use Rattle.task.specs.Contents.{TaskContents}
use Rattle.ledger.specs.Ledger.{Setting, Ledger, accessed, after, row_moved}
use Rattle.ledger.specs.declared.Call.{Call}

-- tables for as many points as the task has, and a cache of its sets and ways
abbrev pub lru_setting : TaskContents → ℕ → Setting
lru_setting t points = record { task = t; room = points; sets = t.sets; life = t.ways }

-- whether the lists of the cache have the block of an access
abbrev pub hits : ℕ → Option ℕ → List (List ℕ) → Bool
hits sets None row = false
hits sets (Some b) row = has b (list_of sets b row)

-- the ledger after calls on a cache with such lists
abbrev pub ledger_on_lru : Setting → List Call → Ledger → List (List ℕ) → Ledger
ledger_on_lru S [] L row = L
ledger_on_lru S (call ∷ calls) L row =
    ledger_on_lru S calls (after S L call (hits S.sets (accessed S L call) row)) (row_moved S.sets S.life (accessed S L call) row)
