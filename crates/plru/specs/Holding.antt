-- A set that is the first n of a list of blocks; and the parts of an access of any set. Assumes nothing.
use Rattle.std.specs.Prelude.{◌≡◌, ℕ, ◌+◌, ◌<◌, ◌≤◌, true, false, List, length, take, nat_lt, slice_set}
use Rattle.std.proofs.Common.{sym, ap, ◌∙◌, arith, length-take}
use Rattle.std.proofs.Math.Seq.{take-set-lt}
use Rattle.std.proofs.lemmas.List.{take_more_set}
use Rattle.std.proofs.lemmas.Bool.{lt-ltb, le-ltb, cond-true, cond-false}
use Rattle.recency.specs.Blocks.{has}
use Rattle.plru.specs.Tree.{touched, victim}
use Rattle.plru.specs.Sets.{SetState, index_of, way_to_fill, blocks_filled, plru_step}

module _ (bs : List ℕ) (n : ℕ) (room : n ≤ length bs) where
  pub filled_length : length (take n bs) ≡ n
  filled_length = simp length-take (omega arith)

  module _ (ways b bits : ℕ) where
    abbrev own : SetState
    own = record { blocks = take n bs; bits = bits }

    less : n < ways → nat_lt (length (take n bs)) ways ≡ true
    less h = let e = filled_length in lt-ltb (length (take n bs)) ways (omega arith)

    more : ways ≤ n → nat_lt (length (take n bs)) ways ≡ false
    more h = let e = filled_length in le-ltb (length (take n bs)) ways (omega arith)

    -- with an empty way
    pub free_way : n < ways → n ≡ way_to_fill ways own
    free_way h = sym (cond-true _ _ _ (less h) ∙ filled_length)

    pub free_filled : n < ways → n < length bs → take (n + 1) (slice_set bs n b) ≡ blocks_filled ways b own
    free_filled h k = take_more_set bs n b k ∙ sym (cond-true _ _ _ (less h))

    -- and without one
    pub full_way : ways ≤ n → victim ways bits ≡ way_to_fill ways own
    full_way h = sym (cond-false _ _ _ (more h))

    pub full_filled : ways ≤ n → victim ways bits < n → take n (slice_set bs (victim ways bits) b) ≡ blocks_filled ways b own
    full_filled h k = take-set-lt n bs (victim ways bits) b k ∙ sym (cond-false _ _ _ (more h))

-- the parts of an access, put together
module _ (ways b : ℕ) (s : SetState) where
  pub hit_step : (bits : ℕ) → has b s.blocks ≡ true → bits ≡ touched ways (index_of b s.blocks) s.bits → record { blocks = s.blocks; bits = bits } ≡ plru_step ways b s
  hit_step bits h e = rw h (ap {B = SetState} (λ v. record { blocks = s.blocks; bits = v }) e)

  pub miss_step : (blocks : List ℕ) (way old bits : ℕ) → has b s.blocks ≡ false → blocks ≡ blocks_filled ways b s → way ≡ way_to_fill ways s → old ≡ s.bits → bits ≡ touched ways way old → record { blocks = blocks; bits = bits } ≡ plru_step ways b s
  miss_step blocks way old bits h e f g k =
      let n : bits ≡ touched ways (way_to_fill ways s) s.bits = k ∙ ap (λ w. touched ways w old) f ∙ ap (touched ways (way_to_fill ways s)) g in
      rw h (ap {B = SetState} (λ v. record { blocks = v; bits = bits }) e ∙ ap {B = SetState} (λ v. record { blocks = blocks_filled ways b s; bits = v }) n)
