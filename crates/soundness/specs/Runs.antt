-- What can happen in a run of a task, oldest first: which events may follow, and what is counted over them.
use Rattle.std.specs.Prelude.{◌≡◌, ℕ, ◌+◌, ◌≤◌, Bool, true, cond, List, [], ◌∷◌, Some, None, Option}
use Rattle.recency.specs.Blocks.{has}
use Rattle.recency.specs.Rows.{list_of, row_step, empty_row}
use Rattle.soundness.specs.Flows.{Flow, Findings, SettledAlongEdges, Fits, resilient}

-- a step and the finish make the access of their point, with its hit or miss; a step leads on to a point; a touch is an access
-- of an evicting block
pub data Event : Type 0 where
  step : Bool → ℕ → Event
  finish : Bool → Event
  interrupt : Event
  touch : ℕ → Event
  resume : Event

pub data Mode : Type 0 where
  walking : Mode
  interrupted : Mode
  ended : Mode

-- a row moved by an access, or none
abbrev pub row_moved : Flow → Option ℕ → List (List ℕ) → List (List ℕ)
row_moved F None row = row
row_moved F (Some a) row = row_step F.sets F.ways a row

-- where the row has the block of an access, it hit
abbrev pub Honest : Flow → Option ℕ → Bool → List (List ℕ) → Type 0
Honest F None hit row = Unit {0}
Honest F (Some a) hit row = has a (list_of F.sets a row) ≡ true → hit ≡ true

-- the events that may follow in a mode, at a point, with a row moved by every access so far: steps along edges and touches of
-- evicting blocks, with honest hits
abbrev pub Allowed : Flow → Mode → ℕ → List (List ℕ) → List Event → Type 0
Allowed F mode p row [] = Unit {0}
Allowed F walking p row (step hit q ∷ es) =
    (has q (F.successors p) ≡ true) × Honest F (F.access p) hit row × Allowed F walking q (row_moved F (F.access p) row) es
Allowed F walking p row (finish hit ∷ es) = Honest F (F.access p) hit row × Allowed F ended p (row_moved F (F.access p) row) es
Allowed F walking p row (interrupt ∷ es) = Allowed F interrupted p row es
Allowed F walking p row (touch b ∷ es) = ⊥
Allowed F walking p row (resume ∷ es) = ⊥
Allowed F interrupted p row (step hit q ∷ es) = ⊥
Allowed F interrupted p row (finish hit ∷ es) = ⊥
Allowed F interrupted p row (interrupt ∷ es) = ⊥
Allowed F interrupted p row (touch b ∷ es) =
    (has b F.evicting ≡ true) × Allowed F interrupted p (row_step F.sets F.ways b row) es
Allowed F interrupted p row (resume ∷ es) = Allowed F walking p row es
Allowed F ended p row (step hit q ∷ es) = ⊥
Allowed F ended p row (finish hit ∷ es) = ⊥
Allowed F ended p row (interrupt ∷ es) = ⊥
Allowed F ended p row (touch b ∷ es) = ⊥
Allowed F ended p row (resume ∷ es) = ⊥

-- an access that missed is a load
abbrev pub load : Option ℕ → Bool → ℕ
load None hit = 0
load (Some a) hit = cond hit 0 1

-- an access whose block the row does not have is a plain load
abbrev pub plain_load : Flow → Option ℕ → List (List ℕ) → ℕ
plain_load F None row = 0
plain_load F (Some a) row = cond (has a (list_of F.sets a row)) 0 1

-- the loads of steps and finish, from a point on
abbrev pub loads : Flow → ℕ → List Event → ℕ
loads F p [] = 0
loads F p (step hit q ∷ es) = load (F.access p) hit + loads F q es
loads F p (finish hit ∷ es) = load (F.access p) hit + loads F p es
loads F p (interrupt ∷ es) = loads F p es
loads F p (touch b ∷ es) = loads F p es
loads F p (resume ∷ es) = loads F p es

-- the plain loads of steps and finish, which alone move the row
abbrev pub plain_loads : Flow → ℕ → List (List ℕ) → List Event → ℕ
plain_loads F p row [] = 0
plain_loads F p row (step hit q ∷ es) = plain_load F (F.access p) row + plain_loads F q (row_moved F (F.access p) row) es
plain_loads F p row (finish hit ∷ es) = plain_load F (F.access p) row + plain_loads F p (row_moved F (F.access p) row) es
plain_loads F p row (interrupt ∷ es) = plain_loads F p row es
plain_loads F p row (touch b ∷ es) = plain_loads F p row es
plain_loads F p row (resume ∷ es) = plain_loads F p row es

-- the resilient numbers of the points that were interrupted, together
abbrev pub charge : Flow → Findings → ℕ → List Event → ℕ
charge F N p [] = 0
charge F N p (step hit q ∷ es) = charge F N q es
charge F N p (finish hit ∷ es) = charge F N p es
charge F N p (interrupt ∷ es) = resilient F N p + charge F N p es
charge F N p (touch b ∷ es) = charge F N p es
charge F N p (resume ∷ es) = charge F N p es

-- loads are at most plain loads plus charge
abbrev pub LoadsBounded : Type 0
LoadsBounded =
    (F : Flow) (N : Findings) → Fits F → SettledAlongEdges F N → (es : List Event) → Allowed F walking 0 (empty_row F.sets) es →
    loads F 0 es ≤ plain_loads F 0 (empty_row F.sets) es + charge F N 0 es
