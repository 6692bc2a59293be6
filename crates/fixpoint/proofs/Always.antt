-- Every table settles, where equal ranks of rows at or before each other tell equal rows. Assumes nothing.
use Rattle.std.proofs.Common.{◌≡◌, ℕ, zero, suc, ◌+◌, ◌*◌, ◌≤◌, List, [], ◌∷◌, sym, refl, ap, ◌∙◌, inl, inr, arith}
use Rattle.std.specs.List.{AllByRecursion}
use Rattle.std.proofs.lemmas.Bool.{cases_lt}
use Rattle.fixpoint.specs.Kinds.{Meaning, Laws}
use Rattle.fixpoint.specs.Rounds.{Job, size, after_rounds}
use Rattle.fixpoint.specs.Settled.{Settled, settled_table}
use Rattle.fixpoint.proofs.Rising.{Under, after_rounds_own, rising}
use Rattle.fixpoint.proofs.Ranks.{Moving, few_rounds, moving_more, ranks, ranks_le, rank_le}
use Rattle.fixpoint.proofs.Settling.{settled}
use Rattle.fixpoint.proofs.Still.{still}

-- a row at or before another, of no lower rank, is that row
abbrev pub RankTells : {Row Note : Type 0} → Meaning Row Note → Type 0
RankTells {Row} M = (a b : Row) → M.own_row a → M.own_row b → M.at_or_before a b → M.rank b ≤ M.rank a → a ≡ b

module _ {Row Note : Type 0} (M : Meaning Row Note) (L : Laws M) (tells : RankTells M) where
  tables_same : (xs ys : List Row) → AllByRecursion M.own_row xs → AllByRecursion M.own_row ys → Under M xs ys → ranks M ys ≤ ranks M xs → xs ≡ ys
  tables_same [] [] h k u r = refl
  tables_same [] (y ∷ ys) h k u r = absurd u
  tables_same (x ∷ xs) [] h k u r = absurd u
  tables_same (x ∷ xs) (y ∷ ys) h k u r =
      let rs = ranks_le M L xs ys h.1 k.1 u.1 in
      let b = rank_le M L x y h.0 k.0 u.0 in
      let e : x ≡ y = tells x y h.0 k.0 u.0 (omega arith) in
      let f : xs ≡ ys = tables_same xs ys h.1 k.1 u.1 (omega arith) in
      cc

  module _ (J : Job Note) (own_notes : AllByRecursion M.own_note J.notes) where
    -- n more rounds may be tried
    found : (n r : ℕ) → n + r ≡ size J * M.height + 1 → Moving M J r → (k : ℕ) × Settled M J k (settled_table M J)
    found zero r e moving = let few = few_rounds M L J own_notes r moving in absurd (omega arith)
    found (suc n) r e moving =
        elim (cases_lt (ranks M (after_rounds M J r)) (ranks M (after_rounds M J (suc r)))) [
          | inl more ↦
              found n (r + 1) (omega arith)
              (moving_more M J r moving (λ idle. let q : ranks M (after_rounds M J (suc r)) ≡ ranks M (after_rounds M J r) = ap (ranks M) idle in omega arith))
          | inr le ↦
              let same : after_rounds M J r ≡ after_rounds M J (suc r) =
              tables_same (after_rounds M J r) (after_rounds M J (suc r)) (after_rounds_own M L J own_notes r) (after_rounds_own M L J own_notes (suc r)) (rising M L J own_notes r) le in
              let table = still M J r (omega arith) (sym same) in
              (suc r, settled M L J own_notes r (settled_table M J) moving (table ∙ same) (sym same))
        ]

    -- some number of rounds settles the table
    pub always_settled : (k : ℕ) × Settled M J k (settled_table M J)
    always_settled = found (size J * M.height + 1) 0 (omega arith) (λ k l. absurd (omega arith))
