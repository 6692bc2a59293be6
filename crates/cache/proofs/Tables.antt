-- An array of block lists and the row that it stands for. Assumes nothing.
use Rattle.std.proofs.Common.{◌≡◌, ℕ, zero, suc, ◌<◌, ◌≤◌, true, List, [], ◌∷◌, map, length, get_or, take, set, All, None, sym, refl, ap, ◌∙◌, mod-lt, arith}
use lib.Seq.{take-set-lt}
use Rattle.std.proofs.lemmas.List.{map-set, get_or-take, get_or-map}
use Rattle.recency.specs.Blocks.{set_of}
use Rattle.recency.specs.Rows.{is_row, empty_row, list_of}
use Rattle.recency.proofs.Rows.{list_short, empty_is_row}
use Rattle.cache.specs.BlockLists.{blocks_of, row_of}
use Rattle.cache.specs.Sizes.{legal_ways, refusal}
use Rattle.cache.specs.declared.block_list.BlockList.{BlockList}
use Rattle.cache.proofs.Sizes.{size_within}

-- a new array stands for empty lists
row_new : (sets : ℕ) (lists : List BlockList) → All (λ list. blocks_of list ≡ []) lists → sets ≤ length lists → row_of sets lists ≡ empty_row sets
row_new zero lists none h = refl
row_new (suc sets) [] none h = absurd (omega arith)
row_new (suc sets) (list ∷ lists) none h =
    let first : blocks_of list ≡ [] = none 0 list (omega arith) in
    rw (first, row_new sets lists (λ k d lt. none (suc k) d (omega arith)) (omega arith)) refl

-- the row of a new cache that is not refused
module _ (sets ways : ℕ) (lists : List BlockList) (made : refusal legal_ways sets ways ≡ None) (room : length lists ≡ 64) (none : All (λ list. blocks_of list ≡ []) lists) where
  pub new_row : row_of sets lists ≡ empty_row sets
  new_row = let few = (size_within sets ways made).1 in row_new sets lists none (omega arith)

  pub new_is_row : is_row sets ways (row_of sets lists) ≡ true
  new_is_row = ap (is_row sets ways) new_row ∙ empty_is_row sets ways

-- the list that an access reads and writes, whatever the policy's step is
module _ (sets w b : ℕ) (lists : List BlockList) (d : BlockList) (some : 1 ≤ sets) (room : sets ≤ length lists) where
  lt : set_of sets b < sets
  lt = mod-lt b some

  pub row_list : list_of sets b (row_of sets lists) ≡ blocks_of (get_or lists (set_of sets b) d)
  row_list = get_or-take sets (map blocks_of lists) (set_of sets b) [] lt ∙ get_or-map blocks_of lists (set_of sets b) d [] (let m = lt in omega arith)

  pub row_set : (step : List ℕ → List ℕ) (list : BlockList) → blocks_of list ≡ step (blocks_of (get_or lists (set_of sets b) d)) →
      row_of sets (set lists (set_of sets b) list) ≡ set (row_of sets lists) (set_of sets b) (step (list_of sets b (row_of sets lists)))
  row_set step list is =
      ap (take sets) (map-set blocks_of lists (set_of sets b) list)
      ∙ take-set-lt sets (map blocks_of lists) (set_of sets b) (blocks_of list) lt
      ∙ ap (λ l. set (row_of sets lists) (set_of sets b) l) (is ∙ ap step (sym row_list))

  -- it fits its ways
  pub list_fits : is_row sets w (row_of sets lists) ≡ true → length (blocks_of (get_or lists (set_of sets b) d)) ≤ w
  list_fits h = rw (← row_list) (list_short sets w some b (row_of sets lists) h)
