-- A settled table is the settled table. Assumes nothing.
use Rattle.std.proofs.Common.{◌≡◌, ℕ, zero, suc, ◌<◌, List, [], ◌∷◌, length, get_or, sym, refl, ◌∙◌, arith}
use Rattle.std.specs.List.{AllByRecursion}
use Rattle.fixpoint.specs.Kinds.{Meaning, Laws}
use Rattle.fixpoint.specs.Rounds.{Job}
use Rattle.fixpoint.specs.Settled.{Settled, settled_table}
use Rattle.fixpoint.proofs.Settling.{settled}
use Rattle.fixpoint.proofs.Still.{still}

module _ {Row Note : Type 0} (M : Meaning Row Note) (L : Laws M) where
  -- own rows at or before each other, point for point
  tables_equal : (xs ys : List Row) → length xs ≡ length ys → AllByRecursion M.own_row xs → AllByRecursion M.own_row ys
      → ((p : ℕ) → p < length xs → M.at_or_before (get_or xs p M.start) (get_or ys p M.start))
      → ((p : ℕ) → p < length xs → M.at_or_before (get_or ys p M.start) (get_or xs p M.start)) → xs ≡ ys
  tables_equal [] [] n h k u v = refl
  tables_equal [] (y ∷ ys) n h k u v = absurd (omega arith)
  tables_equal (x ∷ xs) [] n h k u v = absurd (omega arith)
  tables_equal (x ∷ xs) (y ∷ ys) n h k u v =
      let first : x ≡ y = L.antisymmetric x y h.0 k.0 (u 0 (omega arith)) (v 0 (omega arith)) in
      let rest : xs ≡ ys = tables_equal xs ys (omega arith) h.1 k.1 (λ p l. u (suc p) (omega arith)) (λ p l. v (suc p) (omega arith)) in
      cc

  module _ (J : Job Note) (own_notes : AllByRecursion M.own_note J.notes) where
    -- one table is settled, so that every other that is settled, after as many rounds or not, is the same
    settled_same : (k j : ℕ) (xs ys : List Row) → Settled M J k xs → Settled M J j ys → xs ≡ ys
    settled_same k j xs ys s t =
        tables_equal xs ys (s.own.long ∙ sym t.own.long) s.own.own t.own.own
        (λ p l. s.least ys t.own t.meets p (let n = s.own.long in omega arith))
        (λ p l. t.least xs s.own s.meets p (let n = s.own.long in omega arith))

    pub settled_value : (k : ℕ) (rows : List Row) → Settled M J k rows → rows ≡ settled_table M J
    settled_value zero rows s = let z = s.some in absurd (omega arith)
    settled_value (suc r) rows s =
        let idle = s.last_idle r refl in
        let few = s.few in
        let value = still M J r (omega arith) idle in
        let again = settled M L J own_notes r (settled_table M J) (λ i l. s.earlier_not i (omega arith)) (value ∙ sym idle) idle in
        settled_same (suc r) (suc r) rows (settled_table M J) s again
