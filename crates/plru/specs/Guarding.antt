-- A cache vouches for each row again once the row has moved. Assumes nothing.
use Rattle.std.specs.Prelude.{◌≡◌, ℕ, ◌%◌, ◌<◌, ◌≤◌, true, false, List, [], length, refl}
use Rattle.std.proofs.Common.{ap, ◌∙◌, arith, mod-lt}
use Rattle.std.proofs.lemmas.List.{get_or-set_same}
use Rattle.std.proofs.lemmas.Bool.{both_ways}
use Rattle.recency.specs.Blocks.{has, set_of}
use Rattle.recency.specs.Rows.{empty_row, list_of, row_step}
use Rattle.recency.proofs.Rows.{empty_is_row, step_is_row, row_length}
use Rattle.recency.proofs.Pairs.{paired_at, paired_set}
use Rattle.plru.specs.Tree.{is_tree}
use Rattle.plru.specs.Sets.{SetState, empty_set, plru_step}
use Rattle.plru.specs.Guards.{Guards}
use Rattle.plru.specs.Caches.{CacheState, state_for, holds_block, cache_step, life_of, Guarded}
use Rattle.plru.specs.Lists.{paired_with_replicate}
use Rattle.plru.specs.Steps.{step_guards, step_held}

module _ (c : CacheState) (some : 1 ≤ c.sets) (long : length c.states ≡ c.sets) where
  pub empty_guarded : Guarded c (empty_row c.sets)
  empty_guarded = (empty_is_row c.sets (life_of c.ways), paired_with_replicate (Guards c.ways) c.sets c.states [] long (λ s x h. absurd (both_ways false refl h)))

  at_block : (row : List (List ℕ)) (b : ℕ) → Guarded c row → Guards c.ways (state_for b c) (list_of c.sets b row)
  at_block row b g =
      let n = row_length c.sets (life_of c.ways) row g.0 in
      let m : b % c.sets < c.sets = mod-lt b some in
      paired_at (Guards c.ways) c.states row (set_of c.sets b) empty_set [] (omega arith) g.1

  pub guarded_held : (row : List (List ℕ)) (b : ℕ) → Guarded c row → has b (list_of c.sets b row) ≡ true → holds_block c b ≡ true
  guarded_held row b g h = (at_block row b g b h).0

  module _ (size : is_tree c.ways ≡ true) (b : ℕ) where
    pub block_held : holds_block (cache_step b c) b ≡ true
    block_held =
        let m : b % c.sets < c.sets = mod-lt b some in
        let w : set_of c.sets b < length c.states = omega arith in
        ap (λ (s : SetState). has b s.blocks) (get_or-set_same c.states (set_of c.sets b) (plru_step c.ways b (state_for b c)) empty_set w) ∙ step_held c.ways size (state_for b c) b

    pub guarded_step : length (state_for b c).blocks ≤ c.ways → (row : List (List ℕ)) → Guarded c row → Guarded (cache_step b c) (row_step c.sets (life_of c.ways) b row)
    guarded_step few row g = (
      step_is_row c.sets (life_of c.ways) some b row g.0,
      paired_set (Guards c.ways) c.states row (set_of c.sets b) _ _ g.1 (step_guards c.ways size (state_for b c) b (list_of c.sets b row) few (at_block row b g)),
    )
