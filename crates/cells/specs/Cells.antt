-- What stands at one index of a row, and rows made of such cells, index for index.
use Rattle.std.specs.Prelude.{◌≡◌, ℕ, suc, ◌+◌, ◌*◌, ◌≤◌, List, [], ◌∷◌, length, replicate}
use Rattle.fixpoint.specs.Kinds.{Meaning}

-- which cells may stand at an index, the order of cells, the cell of the start row, the merge of two cells, the rank of
-- a cell, the height, the largest rank, and the number of cells that count: those past the last have rank 0
pub record Cell (E : Type 0) : Type 1 where
  pub own : ℕ → E → Type 0
  pub at_or_before : E → E → Type 0
  pub start : E
  pub merge : E → E → E
  pub rank : E → ℕ
  pub height : ℕ
  pub count : ℕ

pub record CellLaws {E : Type 0} (C : Cell E) : Type 0 where
  pub start_own : (i : ℕ) → C.own i C.start
  pub merge_own : (i : ℕ) (a b : E) → C.own i a → C.own i b → C.own i (C.merge a b)
  pub reflexive : (a : E) → C.at_or_before a a
  pub transitive : (a b c : E) → C.at_or_before a b → C.at_or_before b c → C.at_or_before a c
  pub start_least : (i : ℕ) (a : E) → C.own i a → C.at_or_before C.start a
  pub merge_left : (a b : E) → C.at_or_before a (C.merge a b)
  pub merge_right : (a b : E) → C.at_or_before b (C.merge a b)
  pub merge_least : (a b c : E) → C.at_or_before a c → C.at_or_before b c → C.at_or_before (C.merge a b) c
  pub rank_keeps_order : (a b : E) → C.at_or_before a b → C.rank a ≤ C.rank b
  pub rank_same : (i : ℕ) (a b : E) → C.own i a → C.own i b → C.at_or_before a b → C.rank b ≤ C.rank a → a ≡ b
  pub rank_within : (i : ℕ) (a : E) → C.own i a → C.rank a ≤ C.height
  pub rank_past : (i : ℕ) (a : E) → C.own i a → C.count ≤ i → C.rank a ≡ 0

-- each cell may stand at its index, counted from i
abbrev pub OwnCells : {E : Type 0} → Cell E → ℕ → List E → Type 0
OwnCells C i [] = Unit {0}
OwnCells C i (x ∷ xs) = C.own i x × OwnCells C (suc i) xs

-- as many cells, each at or before the other at its index
abbrev pub EachAtOrBefore : {E : Type 0} → Cell E → List E → List E → Type 0
EachAtOrBefore C [] [] = Unit {0}
EachAtOrBefore C [] (y ∷ ys) = ⊥
EachAtOrBefore C (x ∷ xs) [] = ⊥
EachAtOrBefore C (x ∷ xs) (y ∷ ys) = C.at_or_before x y × EachAtOrBefore C xs ys

-- the cells of two rows put together, index for index
abbrev pub both : {E : Type 0} → (E → E → E) → List E → List E → List E
both f [] ys = []
both f (x ∷ xs) [] = []
both f (x ∷ xs) (y ∷ ys) = f x y ∷ both f xs ys

-- each cell changed by its index, counted from i
abbrev pub each : {E : Type 0} → (ℕ → E → E) → ℕ → List E → List E
each f i [] = []
each f i (x ∷ xs) = f i x ∷ each f (suc i) xs

abbrev pub total : {E : Type 0} → (E → ℕ) → List E → ℕ
total rank [] = 0
total rank (x ∷ xs) = rank x + total rank xs

-- rows of `size` own cells
abbrev pub OwnRow : {E : Type 0} → Cell E → ℕ → List E → Type 0
OwnRow C size xs = (length xs ≡ size) × OwnCells C 0 xs

-- the kind whose rows have `size` cells: `cells` gives the cells of a row, and `row` the row of some cells
abbrev pub rows_meaning : {E R N : Type 0} → Cell E → ℕ → (R → List E) → (List E → R) → (N → Type 0) → (R → N → R) → Meaning R N
rows_meaning C size cells row own_note advance = record {
  own_row = λ r. OwnRow C size (cells r);
  own_note = own_note;
  at_or_before = λ a b. EachAtOrBefore C (cells a) (cells b);
  start = row (replicate size C.start);
  merge = λ a b. row (both C.merge (cells a) (cells b));
  advance = advance;
  rank = λ r. total C.rank (cells r);
  height = C.count * C.height;
}
