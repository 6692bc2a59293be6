-- The FIFO step keeps a row a row, and keeps the last block of each set. Assumes nothing.
use Rattle.std.specs.Prelude.{◌≡◌, ℕ, zero, suc, ◌<◌, ◌≤◌, true, List, [], ◌∷◌, length, take, refl}
use Rattle.std.proofs.Common.{sym, ap, subst, ◌∙◌, arith}
use Rattle.std.proofs.lemmas.List.{get_or-set_same}
use Rattle.std.proofs.lemmas.Bool.{cond_both, cond-false}
use Rattle.std.proofs.lemmas.Bool.Decides.{nat_tests}
use Rattle.recency.specs.Blocks.{has, set_of}
use Rattle.recency.specs.Recency.{without, lru_step}
use Rattle.recency.specs.Rows.{is_list, is_row, empty_row, list_of, row_step}
use Rattle.recency.specs.Paired.{Paired}
use Rattle.recency.proofs.Steps.{step_is_list}
use Rattle.recency.proofs.Rows.{row_length, set_within, list_is_list, list_short, set_is_row, step_is_row, empty_is_row}
use Rattle.recency.proofs.Pairs.{paired_at, paired_set, paired_replicate}
use Rattle.cache.specs.FifoSteps.{fifo_step, fifo_row_step}
use Rattle.cache.specs.Policies.{FifoVouchesFor, PolicyLaws, Within}

-- distinct blocks of the set, and no more than w, as after an LRU step
fifo_is_list : (sets w s b : ℕ) (l : List ℕ) → set_of sets b ≡ s → is_list sets w s l ≡ true → is_list sets w s (fifo_step w b l) ≡ true
fifo_is_list sets w s b l e h =
    cond_both (has b l) l (take w (b ∷ l)) (λ m. is_list sets w s m ≡ true)
    (λ _. h)
    (λ out. ap (is_list sets w s) (sym (cond-false (has b l) (b ∷ without b l) (take w (b ∷ l)) out)) ∙ step_is_list w b l sets s e h)

pub fifo_has : (w b : ℕ) (l : List ℕ) → 1 ≤ w → has b (fifo_step w b l) ≡ true
fifo_has zero b l h = absurd (omega arith)
fifo_has (suc w) b l h = cond_both (has b l) l (b ∷ take w l) (λ m. has b m ≡ true) (λ e. e) (λ _. grind (arith, nat_tests))

-- an LRU list of one way holds the last block alone
lone_step : (b : ℕ) (l : List ℕ) → length l ≤ 1 → lru_step 1 b l ≡ b ∷ []
lone_step b [] h = refl
lone_step b (x ∷ []) h = grind (arith, nat_tests)
lone_step b (x ∷ (y ∷ l)) h = absurd (omega arith)

within_has : (b : ℕ) (l m : List ℕ) → Within l m → has b l ≡ true → has b m ≡ true
within_has b [] m v h = absurd (let z : ◌≡◌ {A = ℕ} 0 1 = cc in omega arith)
within_has b (x ∷ l) m v h = let here = v.0 in let i = within_has b l m v.1 in grind (arith, nat_tests)

module _ (sets w : ℕ) (own : List (List ℕ)) (h : is_row sets w own ≡ true) where
  -- empty lists are within any
  pub empty_within : Paired Within (empty_row sets) own
  empty_within = paired_replicate Within sets [] own (row_length sets w own h) (λ _. tt)

  module _ (some : 1 ≤ sets) (b : ℕ) where
    within_bounds : set_of sets b < length own
    within_bounds = set_within sets w some b own h

    pub fifo_step_is_row : is_row sets w (fifo_row_step sets w b own) ≡ true
    fifo_step_is_row = set_is_row sets w some b own h _ (fifo_is_list sets w (set_of sets b) b (list_of sets b own) refl (list_is_list sets w some b own h))

    -- the block of an access is in its list
    pub fifo_step_has : 1 ≤ w → has b (list_of sets b (fifo_row_step sets w b own)) ≡ true
    fifo_step_has k = ap (has b) (get_or-set_same own (set_of sets b) (fifo_step w b (list_of sets b own)) [] within_bounds) ∙ fifo_has w b (list_of sets b own) k

    module _ (row : List (List ℕ)) (v : Paired Within row own) where
      -- what the row has, the cache has
      pub rows_have : has b (list_of sets b row) ≡ true → has b (list_of sets b own) ≡ true
      rows_have = within_has b (list_of sets b row) (list_of sets b own) (paired_at Within row own (set_of sets b) [] [] within_bounds v)

      -- LRU lists of one way stay within those of FIFO
      pub within_step : 1 ≤ w → is_row sets 1 row ≡ true → Paired Within (row_step sets 1 b row) (fifo_row_step sets w b own)
      within_step k one =
          let last = lone_step b (list_of sets b row) (list_short sets 1 some b row one) in
          paired_set Within row own (set_of sets b) _ _ v (subst (λ m. Within m (fifo_step w b (list_of sets b own))) (sym last) (fifo_has w b (list_of sets b own) k, tt))

pub fifo_laws : PolicyLaws fifo_step (λ w. 1) FifoVouchesFor
fifo_laws = record {
  life_within = λ w some few. (omega arith, omega arith);
  step_is_list = fifo_is_list;
  step_has = fifo_has;
  empty = λ sets w own h. (empty_is_row sets 1, empty_within sets w own h);
  rows = λ sets w own row h v. v.0;
  held = λ sets w own row some h v b. rows_have sets w own h some b row v.1;
  moves = λ sets w own row some k h v b. (step_is_row sets 1 some b row v.0, within_step sets w own h some b row v.1 k v.0);
}
