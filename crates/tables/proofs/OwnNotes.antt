-- The notes of a task are own notes of its kinds. Assumes nothing.
use Rattle.std.proofs.Common.{◌≡◌, ℕ, zero, suc, ◌+◌, ◌<◌, ◌≤◌, Bool, true, false, cond, eqb, List, [], ◌∷◌, map, length, get_or, Some, None, Option, refl, ap, arith}
use lib.ListN.{length-map}
use Rattle.std.specs.List.{AllByRecursion}
use Rattle.task.specs.Blocks.{access_at, access_index}
use Rattle.task.specs.Contents.{PointContents, TaskContents}
use Rattle.task.specs.Lists.{first_from}
use Rattle.cells.specs.Cells.{OwnCells}
use Rattle.rowkinds.specs.Ages.{OwnAccess}
use Rattle.blocksets.specs.declared.BlockSet.{BlockSet}
use Rattle.blocksets.proofs.Sizes.{size_lacking}
use Rattle.conflicts.specs.Conflicts.{OwnConflict, conflict_cell, conflict_list, conflicts_meaning}
use Rattle.conflicts.specs.declared.Conflicts.{Conflicts}
use Rattle.widest.specs.NextUses.{Below, OwnUse}
use Rattle.tables.specs.Tables.{access_notes, blocks, size_of, use_note, use_notes}

-- an index that was found is one of the list
first_below : {X : Type 0} (i n : ℕ) (test : X → Bool) (xs : List X) → n ≡ i + length xs → OwnAccess n (first_from i test xs)
first_below i n test [] e = tt
first_below i n test (x ∷ xs) e = chosen (test x) (first_below (suc i) n test xs (omega arith))
  where
    chosen : (b : Bool) → OwnAccess n (first_from (suc i) test xs) → OwnAccess n (cond b (Some i) (first_from (suc i) test xs))
    chosen true h = omega arith
    chosen false h = h

pub own_index : (bs : List ℕ) (access : Option ℕ) → OwnAccess (length bs) (access_index bs access)
own_index bs None = tt
own_index bs (Some b) = first_below 0 (length bs) (eqb b) bs (omega arith)

own_indices : (bs : List ℕ) (ps : List PointContents) → AllByRecursion (OwnAccess (length bs)) (map (λ p. access_index bs p.access) ps)
own_indices bs [] = tt
own_indices bs (p ∷ ps) = (own_index bs p.access, own_indices bs ps)

pub own_access_notes : (t : TaskContents) → AllByRecursion (OwnAccess (length (blocks t))) (access_notes t)
own_access_notes t = own_indices (blocks t) t.points

module _ (n : ℕ) (few : n ≤ 64) (sets : List ℕ) where
  -- a block conflicts with other blocks only
  own_size : (i : ℕ) (x : Option BlockSet) → OwnConflict n sets i x → Below n (size_of x)
  own_size i None h = tt
  own_size i (Some s) h = size_lacking s n i few (λ j held. (h.1 j held).0) h.0 (λ held. (h.1 i held).1 refl)

  own_cell : (i k : ℕ) (xs : List (Option BlockSet)) → OwnCells (conflict_cell n sets) i xs → Below n (size_of (get_or xs k None))
  own_cell i k [] h = tt
  own_cell i zero (x ∷ xs) h = own_size i x h.0
  own_cell i (suc k) (x ∷ xs) h = own_cell (suc i) k xs h.1

  own_use : (row : Conflicts) (note : Option ℕ) → OwnCells (conflict_cell n sets) 0 (conflict_list row) → OwnAccess n note → OwnUse n (use_note row note)
  own_use row None h k = tt
  own_use row (Some b) h k = (k, own_cell 0 b (conflict_list row) h)

  pub own_use_notes : (rows : List Conflicts) (notes : List (Option ℕ)) → AllByRecursion (conflicts_meaning n sets).own_row rows → AllByRecursion (OwnAccess n) notes → AllByRecursion (OwnUse n) (use_notes rows notes)
  own_use_notes [] notes h k = tt
  own_use_notes (row ∷ rows) [] h k = tt
  own_use_notes (row ∷ rows) (note ∷ notes) h k = (own_use row note h.0.1 k.0, own_use_notes rows notes h.1 k.1)

indices_at : (bs : List ℕ) (ps : List PointContents) (p : ℕ) → p < length ps → get_or (map (λ q. access_index bs q.access) ps) p None ≡ access_index bs (access_at ps p)
indices_at bs [] p h = absurd (omega arith)
indices_at bs (q ∷ qs) zero h = refl
indices_at bs (q ∷ qs) (suc p) h = indices_at bs qs p (omega arith)

-- the note of a point
pub access_notes_at : (t : TaskContents) (p : ℕ) → p < length t.points → get_or (access_notes t) p None ≡ access_index (blocks t) (access_at t.points p)
access_notes_at t p h = indices_at (blocks t) t.points p h

pub length_access_notes : (t : TaskContents) → length (access_notes t) ≡ length t.points
length_access_notes t = length-map t.points (λ q. access_index (blocks t) q.access)

pub length_use_notes : (rows : List Conflicts) (notes : List (Option ℕ)) → length rows ≡ length notes → length (use_notes rows notes) ≡ length notes
length_use_notes [] [] e = refl
length_use_notes [] (n ∷ notes) e = absurd (omega arith)
length_use_notes (row ∷ rows) [] e = absurd (omega arith)
length_use_notes (row ∷ rows) (n ∷ notes) e = ap suc (length_use_notes rows notes (omega arith))

pub use_notes_at : (rows : List Conflicts) (notes : List (Option ℕ)) (p : ℕ) (d : Conflicts) → p < length rows → p < length notes → get_or (use_notes rows notes) p None ≡ use_note (get_or rows p d) (get_or notes p None)
use_notes_at [] notes p d h k = absurd (omega arith)
use_notes_at (row ∷ rows) [] p d h k = absurd (omega arith)
use_notes_at (row ∷ rows) (n ∷ notes) zero d h k = refl
use_notes_at (row ∷ rows) (n ∷ notes) (suc p) d h k = use_notes_at rows notes p d (omega arith) (omega arith)
