-- Rows of lists, one list for each cache set.
use Rattle.std.specs.Prelude.{ℕ, suc, Bool, ◌&&◌, List, [], ◌∷◌, length, replicate, ◌==◌, nat_le, slice_index_or, slice_set}
use Rattle.recency.specs.Blocks.{distinct, of_set, set_of}
use Rattle.recency.specs.Recency.{lru_step}

-- distinct blocks of set s, at most w of them
abbrev pub is_list : ℕ → ℕ → ℕ → List ℕ → Bool
is_list sets w s l = distinct l && (of_set sets s l && nat_le (length l) w)

abbrev pub lists_from : ℕ → ℕ → ℕ → List (List ℕ) → Bool
lists_from sets w s [] = s == sets
lists_from sets w s (l ∷ row) = is_list sets w s l && lists_from sets w (suc s) row

-- a row has one list for each set, in their order
abbrev pub is_row : ℕ → ℕ → List (List ℕ) → Bool
is_row sets w row = lists_from sets w 0 row

abbrev pub empty_row : ℕ → List (List ℕ)
empty_row sets = replicate sets []

-- the list of the set of b
abbrev pub list_of : ℕ → ℕ → List (List ℕ) → List ℕ
list_of sets b row = slice_index_or row (set_of sets b) []

-- an access moves the list of its block's set alone
abbrev pub row_step : ℕ → ℕ → ℕ → List (List ℕ) → List (List ℕ)
row_step sets w b row = slice_set row (set_of sets b) (lru_step w b (list_of sets b row))

-- accesses, one after the other
abbrev pub row_run : ℕ → ℕ → List ℕ → List (List ℕ) → List (List ℕ)
row_run sets w [] row = row
row_run sets w (b ∷ bs) row = row_run sets w bs (row_step sets w b row)
