-- After an idle round the table stays as it is. Assumes nothing.
use Rattle.std.proofs.Common.{◌≡◌, ℕ, zero, suc, ◌+◌, ◌-◌, ◌*◌, ◌≤◌, sym, ap, ◌∙◌, arith}
use Rattle.fixpoint.specs.Kinds.{Meaning}
use Rattle.fixpoint.specs.Rounds.{Job, size, round, after_rounds}
use Rattle.fixpoint.specs.Settled.{settled_table}
use Rattle.fixpoint.proofs.Steps.{after_rounds_more}

module _ {Row Note : Type 0} (M : Meaning Row Note) (J : Job Note) where
  still_more : (r k : ℕ) → after_rounds M J (suc r) ≡ after_rounds M J r → after_rounds M J (k + r) ≡ after_rounds M J r
  still_more r zero idle = ap (after_rounds M J) (omega arith)
  still_more r (suc k) idle =
      let e : suc k + r ≡ suc (k + r) = omega arith in
      ap (after_rounds M J) e ∙ after_rounds_more M J (k + r) ∙ ap (round M J) (still_more r k idle) ∙ sym (after_rounds_more M J r) ∙ idle

  -- the settled table is what the rounds before an idle one give
  pub still : (r : ℕ) → r ≤ size J * M.height + 1 → after_rounds M J (suc r) ≡ after_rounds M J r → settled_table M J ≡ after_rounds M J r
  unfolding settled_table
  still r h idle =
      let e : size J * M.height + 1 ≡ (size J * M.height + 1 - r) + r = omega arith in
      ap (after_rounds M J) e ∙ still_more r (size J * M.height + 1 - r) idle
