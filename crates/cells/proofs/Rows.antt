-- The laws of cells, for rows of such cells. Assumes nothing.
use Rattle.std.proofs.Common.{◌≡◌, ℕ, zero, suc, ◌+◌, ◌*◌, ◌≤◌, List, [], ◌∷◌, length, set, replicate, refl, subst, suc-mul, arith}
use Rattle.cells.specs.Cells.{Cell, CellLaws, OwnCells, EachAtOrBefore, both, each, total}

module _ {E : Type 0} (C : Cell E) (L : CellLaws C) where
  pub own_start : (i n : ℕ) → OwnCells C i (replicate n C.start)
  own_start i zero = tt
  own_start i (suc n) = (L.start_own i, own_start (suc i) n)

  pub own_both : (i : ℕ) (xs ys : List E) → OwnCells C i xs → OwnCells C i ys → OwnCells C i (both C.merge xs ys)
  own_both i [] ys h k = tt
  own_both i (x ∷ xs) [] h k = tt
  own_both i (x ∷ xs) (y ∷ ys) h k = (L.merge_own i x y h.0 k.0, own_both (suc i) xs ys h.1 k.1)

  pub own_each : (f : ℕ → E → E) → ((i : ℕ) (x : E) → C.own i x → C.own i (f i x)) → (i : ℕ) (xs : List E) → OwnCells C i xs → OwnCells C i (each f i xs)
  own_each f keeps i [] h = tt
  own_each f keeps i (x ∷ xs) h = (keeps i x h.0, own_each f keeps (suc i) xs h.1)

  pub before_refl : (xs : List E) → EachAtOrBefore C xs xs
  before_refl [] = tt
  before_refl (x ∷ xs) = (L.reflexive x, before_refl xs)

  pub before_trans : (xs ys zs : List E) → EachAtOrBefore C xs ys → EachAtOrBefore C ys zs → EachAtOrBefore C xs zs
  before_trans [] [] zs u v = v
  before_trans [] (y ∷ ys) zs u v = absurd u
  before_trans (x ∷ xs) [] zs u v = absurd u
  before_trans (x ∷ xs) (y ∷ ys) [] u v = absurd v
  before_trans (x ∷ xs) (y ∷ ys) (z ∷ zs) u v = (L.transitive x y z u.0 v.0, before_trans xs ys zs u.1 v.1)

  pub before_start : (i : ℕ) (xs : List E) → OwnCells C i xs → EachAtOrBefore C (replicate (length xs) C.start) xs
  before_start i [] h = tt
  before_start i (x ∷ xs) h = (L.start_least i x h.0, before_start (suc i) xs h.1)

  pub before_left : (xs ys : List E) → length xs ≡ length ys → EachAtOrBefore C xs (both C.merge xs ys)
  before_left [] ys e = tt
  before_left (x ∷ xs) [] e = absurd (omega arith)
  before_left (x ∷ xs) (y ∷ ys) e = (L.merge_left x y, before_left xs ys (omega arith))

  pub before_right : (xs ys : List E) → length xs ≡ length ys → EachAtOrBefore C ys (both C.merge xs ys)
  before_right [] [] e = tt
  before_right [] (y ∷ ys) e = absurd (omega arith)
  before_right (x ∷ xs) [] e = absurd (omega arith)
  before_right (x ∷ xs) (y ∷ ys) e = (L.merge_right x y, before_right xs ys (omega arith))

  pub before_least : (xs ys zs : List E) → EachAtOrBefore C xs zs → EachAtOrBefore C ys zs → EachAtOrBefore C (both C.merge xs ys) zs
  before_least [] ys zs u v = u
  before_least (x ∷ xs) [] [] u v = absurd u
  before_least (x ∷ xs) [] (z ∷ zs) u v = absurd v
  before_least (x ∷ xs) (y ∷ ys) [] u v = absurd u
  before_least (x ∷ xs) (y ∷ ys) (z ∷ zs) u v = (L.merge_least x y z u.0 v.0, before_least xs ys zs u.1 v.1)

  -- two changes, one at or before the other at every own cell
  pub before_each : (f g : ℕ → E → E) → ((i : ℕ) (x y : E) → C.own i x → C.own i y → C.at_or_before x y → C.at_or_before (f i x) (g i y)) → (i : ℕ) (xs ys : List E) → OwnCells C i xs → OwnCells C i ys → EachAtOrBefore C xs ys → EachAtOrBefore C (each f i xs) (each g i ys)
  before_each f g keeps i [] [] h k u = tt
  before_each f g keeps i [] (y ∷ ys) h k u = absurd u
  before_each f g keeps i (x ∷ xs) [] h k u = absurd u
  before_each f g keeps i (x ∷ xs) (y ∷ ys) h k u = (keeps i x y h.0 k.0 u.0, before_each f g keeps (suc i) xs ys h.1 k.1 u.1)

  -- one cell is put in place
  pub own_set : (i k : ℕ) (xs : List E) (v : E) → C.own (i + k) v → OwnCells C i xs → OwnCells C i (set xs k v)
  own_set i k [] v o h = tt
  own_set i zero (x ∷ xs) v o h = (subst (λ (j : ℕ). C.own j v) (omega arith) o, h.1)
  own_set i (suc k) (x ∷ xs) v o h = (h.0, own_set (suc i) k xs v (subst (λ (j : ℕ). C.own j v) (omega arith) o) h.1)

  pub before_set : (k : ℕ) (xs ys : List E) (v : E) → EachAtOrBefore C xs ys → EachAtOrBefore C (set xs k v) (set ys k v)
  before_set k [] [] v u = tt
  before_set k [] (y ∷ ys) v u = absurd u
  before_set k (x ∷ xs) [] v u = absurd u
  before_set zero (x ∷ xs) (y ∷ ys) v u = (L.reflexive v, u.1)
  before_set (suc k) (x ∷ xs) (y ∷ ys) v u = (u.0, before_set k xs ys v u.1)

  pub total_rises : (xs ys : List E) → EachAtOrBefore C xs ys → total C.rank xs ≤ total C.rank ys
  total_rises [] [] u = omega arith
  total_rises [] (y ∷ ys) u = absurd u
  total_rises (x ∷ xs) [] u = absurd u
  total_rises (x ∷ xs) (y ∷ ys) u = let r = total_rises xs ys u.1 in let a = L.rank_keeps_order x y u.0 in omega arith

  pub total_same : (i : ℕ) (xs ys : List E) → OwnCells C i xs → OwnCells C i ys → EachAtOrBefore C xs ys → total C.rank ys ≤ total C.rank xs → xs ≡ ys
  total_same i [] [] p q u h = refl
  total_same i [] (y ∷ ys) p q u h = absurd u
  total_same i (x ∷ xs) [] p q u h = absurd u
  total_same i (x ∷ xs) (y ∷ ys) p q u h =
      let r = total_rises xs ys u.1 in
      let a = L.rank_keeps_order x y u.0 in
      let e : x ≡ y = L.rank_same i x y p.0 q.0 u.0 (omega arith) in
      let f : xs ≡ ys = total_same (suc i) xs ys p.1 q.1 u.1 (omega arith) in
      cc

  total_past : (i : ℕ) (xs : List E) → OwnCells C i xs → C.count ≤ i → total C.rank xs ≡ 0
  total_past i [] h l = refl
  total_past i (x ∷ xs) h l = let r = total_past (suc i) xs h.1 (omega arith) in let a = L.rank_past i x h.0 l in omega arith

  -- n of the cells that count are left
  total_left : (i n : ℕ) (xs : List E) → i + n ≡ C.count → OwnCells C i xs → total C.rank xs ≤ n * C.height
  total_left i n [] e h = omega arith
  total_left i zero (x ∷ xs) e h = let r = total_past i (x ∷ xs) h (omega arith) in omega arith
  total_left i (suc n) (x ∷ xs) e h =
      let r = total_left (suc i) n xs (omega arith) h.1 in
      let a = L.rank_within i x h.0 in
      simp suc-mul (omega arith)

  pub total_within : (xs : List E) → OwnCells C 0 xs → total C.rank xs ≤ C.count * C.height
  total_within xs h = total_left 0 C.count xs (omega arith) h
