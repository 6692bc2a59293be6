-- What a kind of row means, and the laws that it shows. In the words of dataflow analysis: a join-semilattice of finite
-- height with a monotone transfer function.
use Rattle.std.specs.Prelude.{◌≡◌, ℕ, ◌<◌, ◌≤◌, ◌≢◌}

-- which rows and notes are the kind's own, the order of rows, the start row, the merge of two rows, the row after a
-- point with a note, the rank of a row, and the height, the largest rank
pub record Meaning (Row Note : Type 0) : Type 1 where
  pub own_row : Row → Type 0
  pub own_note : Note → Type 0
  pub at_or_before : Row → Row → Type 0
  pub start : Row
  pub merge : Row → Row → Row
  pub advance : Row → Note → Row
  pub rank : Row → ℕ
  pub height : ℕ

-- the laws speak of own rows and own notes only
pub record Laws {Row Note : Type 0} (M : Meaning Row Note) : Type 0 where
  pub start_own : M.own_row M.start
  pub merge_own : (a b : Row) → M.own_row a → M.own_row b → M.own_row (M.merge a b)
  pub advance_own : (a : Row) (n : Note) → M.own_row a → M.own_note n → M.own_row (M.advance a n)
  pub reflexive : (a : Row) → M.own_row a → M.at_or_before a a
  pub transitive : (a b c : Row) → M.own_row a → M.own_row b → M.own_row c → M.at_or_before a b → M.at_or_before b c → M.at_or_before a c
  pub antisymmetric : (a b : Row) → M.own_row a → M.own_row b → M.at_or_before a b → M.at_or_before b a → a ≡ b
  pub start_least : (a : Row) → M.own_row a → M.at_or_before M.start a
  pub merge_left : (a b : Row) → M.own_row a → M.own_row b → M.at_or_before a (M.merge a b)
  pub merge_right : (a b : Row) → M.own_row a → M.own_row b → M.at_or_before b (M.merge a b)
  pub merge_least : (a b c : Row) → M.own_row a → M.own_row b → M.own_row c → M.at_or_before a c → M.at_or_before b c → M.at_or_before (M.merge a b) c
  pub advance_keeps_order : (a b : Row) (n : Note) → M.own_row a → M.own_row b → M.own_note n → M.at_or_before a b → M.at_or_before (M.advance a n) (M.advance b n)
  pub rank_within : (a : Row) → M.own_row a → M.rank a ≤ M.height
  pub rank_rises : (a b : Row) → M.own_row a → M.own_row b → M.at_or_before a b → (a ≢ b) → M.rank a < M.rank b
