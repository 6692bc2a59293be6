-- How a cache moves the lists of its sets, and what it is sure to hold.
use Rattle.std.specs.Prelude.{◌≡◌, ℕ, ◌≤◌, true, List, [], ◌∷◌, slice_set, refl}
use Rattle.std.proofs.Common.{ap, ◌∙◌}
use Rattle.std.proofs.lemmas.List.{get_or-set_same}
use Rattle.recency.proofs.Rows.{list_is_list, set_is_row, set_within}
use Rattle.recency.specs.Blocks.{has, set_of}
use Rattle.recency.specs.Paired.{Paired}
use Rattle.recency.specs.Prefixes.{Prefix}
use Rattle.recency.specs.Rows.{empty_row, is_list, is_row, list_of, row_step}

-- an access changes the list of its block's set alone
abbrev pub row_after : (ℕ → ℕ → List ℕ → List ℕ) → ℕ → ℕ → ℕ → List (List ℕ) → List (List ℕ)
row_after step sets w b row = slice_set row (set_of sets b) (step w b (list_of sets b row))

-- what a cache relies on, of w ways, with a row of its own, and with a row that it vouches for
pub record PolicyLaws (step : ℕ → ℕ → List ℕ → List ℕ) (life : ℕ → ℕ) (vouches : ℕ → ℕ → List (List ℕ) → List (List ℕ) → Type 0) : Type 0 where
  pub life_within : (w : ℕ) → 1 ≤ w → w ≤ 8 → (1 ≤ life w) × (life w ≤ 8)
  pub step_is_list : (sets w s b : ℕ) (l : List ℕ) → set_of sets b ≡ s → is_list sets w s l ≡ true → is_list sets w s (step w b l) ≡ true
  pub step_has : (w b : ℕ) (l : List ℕ) → 1 ≤ w → has b (step w b l) ≡ true
  pub empty : (sets w : ℕ) (own : List (List ℕ)) → is_row sets w own ≡ true → vouches sets w own (empty_row sets)
  pub rows : (sets w : ℕ) (own row : List (List ℕ)) → is_row sets w own ≡ true → vouches sets w own row → is_row sets (life w) row ≡ true
  pub held : (sets w : ℕ) (own row : List (List ℕ)) → 1 ≤ sets → is_row sets w own ≡ true → vouches sets w own row → (b : ℕ) → has b (list_of sets b row) ≡ true → has b (list_of sets b own) ≡ true
  pub moves : (sets w : ℕ) (own row : List (List ℕ)) → 1 ≤ sets → 1 ≤ w → is_row sets w own ≡ true → vouches sets w own row → (b : ℕ) → vouches sets w (row_after step sets w b own) (row_step sets (life w) b row)

-- so a row stays a row, and the block of an access is in its list
module _ {step : ℕ → ℕ → List ℕ → List ℕ} {life : ℕ → ℕ} {vouches : ℕ → ℕ → List (List ℕ) → List (List ℕ) → Type 0} (laws : PolicyLaws step life vouches) (sets w : ℕ) (some : 1 ≤ sets) (b : ℕ) (row : List (List ℕ)) (h : is_row sets w row ≡ true) where
  pub step_keeps_row : is_row sets w (row_after step sets w b row) ≡ true
  step_keeps_row = set_is_row sets w some b row h _ (laws.step_is_list sets w (set_of sets b) b (list_of sets b row) refl (list_is_list sets w some b row h))

  pub step_has_block : 1 ≤ w → has b (list_of sets b (row_after step sets w b row)) ≡ true
  step_has_block k = ap (has b) (get_or-set_same row (set_of sets b) (step w b (list_of sets b row)) [] (set_within sets w some b row h)) ∙ laws.step_has w b (list_of sets b row) k

-- each list of the row is a front part of the cache's own list of that set
abbrev pub LruVouchesFor : ℕ → ℕ → List (List ℕ) → List (List ℕ) → Type 0
LruVouchesFor sets w own row = Paired Prefix row own

-- each block of l stands in m
abbrev pub Within : List ℕ → List ℕ → Type 0
Within [] m = Unit {0}
Within (b ∷ bs) m = (has b m ≡ true) × Within bs m

-- each list of the row has at most one block, and the cache holds it. A FIFO cache is sure of no more, since a hit does not
-- put off the eviction of a block
abbrev pub FifoVouchesFor : ℕ → ℕ → List (List ℕ) → List (List ℕ) → Type 0
FifoVouchesFor sets w own row = (is_row sets 1 row ≡ true) × Paired Within row own
