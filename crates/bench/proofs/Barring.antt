-- What bars every call of a bench, test by test. Assumes nothing.
use Rattle.std.proofs.Common.{◌≡◌, ℕ, ◌<◌, ◌≤◌, length, Some, None, ◌∙◌, ⊎_elim, arith}
use Rattle.std.proofs.lemmas.Bool.{cases_lt, cond-true, cond-false, lt-ltb, le-ltb, eq-eqb, ne_eqb}
use Rattle.ledger.specs.Ledger.{Setting, barred}

module _ (S : Setting) where
  pub short_table : S.room < length S.task.points → barred S ≡ Some 10
  short_table h = cond-true _ _ _ (lt-ltb _ _ h)

  module _ (room : length S.task.points ≤ S.room) where
    pub other_sets : (S.sets ≡ S.task.sets → ⊥) → barred S ≡ Some 14
    other_sets h = cond-false _ _ _ (le-ltb _ _ room) ∙ cond-false _ _ _ (ne_eqb _ _ h)

    module _ (sets : S.sets ≡ S.task.sets) where
      pub other_life : (S.life ≡ S.task.ways → ⊥) → barred S ≡ Some 15
      other_life h = cond-false _ _ _ (le-ltb _ _ room) ∙ cond-true _ _ _ (eq-eqb _ _ sets) ∙ cond-false _ _ _ (ne_eqb _ _ h)

      pub not_barred : S.life ≡ S.task.ways → barred S ≡ None
      not_barred h = cond-false _ _ _ (le-ltb _ _ room) ∙ cond-true _ _ _ (eq-eqb _ _ sets) ∙ cond-true _ _ _ (eq-eqb _ _ h)

  -- where nothing bars the bench, each table has a row for each point
  pub open_room : barred S ≡ None → length S.task.points ≤ S.room
  open_room e = ⊎_elim (λ h. let short = short_table h in let z : ◌≡◌ {A = ℕ} 0 1 = cc in absurd (omega arith)) (λ h. h) (cases_lt S.room (length S.task.points))
