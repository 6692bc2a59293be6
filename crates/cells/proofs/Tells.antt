-- Rows of cells at or before each other, of the same rank, are equal. Assumes nothing.
use Rattle.std.proofs.Common.{◌≡◌, ℕ, List, sym, ap, ◌∙◌}
use Rattle.fixpoint.proofs.Always.{RankTells}
use Rattle.cells.specs.Cells.{Cell, CellLaws, rows_meaning}
use Rattle.cells.proofs.Rows.{total_same}

pub rows_tell : {E R N : Type 0} (C : Cell E) (L : CellLaws C) (size : ℕ) (cells : R → List E) (row : List E → R) (own_note : N → Type 0) (advance : R → N → R)
    → ((r : R) → row (cells r) ≡ r) → RankTells (rows_meaning C size cells row own_note advance)
rows_tell C L size cells row own_note advance there a b h k u le =
    sym (there a) ∙ ap row (total_same C L 0 (cells a) (cells b) h.1 k.1 u le) ∙ there b
