-- A list at the front of another stays there under the same step. Assumes nothing.
use Rattle.std.proofs.Common.{◌≡◌, ℕ, zero, suc, ◌≤◌, Bool, true, false, cond, ◌&&◌, ◌||◌, eqb, leb, List, [], ◌∷◌, length, take, sym, refl, ap, ◌∙◌, ⊎_elim, arith}
use Rattle.std.proofs.lemmas.Bool.{cases_Bool, and_parts, and_from, or_parts, leb-true, le-leb}
use Rattle.std.proofs.lemmas.Bool.Decides.{nat_tests}
use Rattle.recency.specs.Blocks.{has, distinct, of_set, set_of}
use Rattle.recency.specs.Recency.{without, lru_step}
use Rattle.recency.specs.Rows.{is_list, lists_from, is_row, empty_row, list_of, row_step}
use Rattle.recency.specs.Paired.{Paired}
use Rattle.recency.specs.Prefixes.{Prefix}
use Rattle.recency.proofs.Pairs.{paired_at, paired_set, paired_replicate}
use Rattle.recency.proofs.Rows.{row_length, set_within}

-- what a front part holds, the whole holds
pub prefix_has : (b : ℕ) (l m : List ℕ) → Prefix l m → has b l ≡ true → has b m ≡ true
prefix_has b [] m p h = absurd (let z : ◌≡◌ {A = ℕ} 0 1 = cc in omega arith)
prefix_has b (x ∷ xs) [] p h = absurd p
prefix_has b (x ∷ xs) (y ∷ ys) p h = let e = p.0 in let i = prefix_has b xs ys p.1 in grind (arith, nat_tests)

prefix_take_left : (n : ℕ) (l m : List ℕ) → Prefix l m → Prefix (take n l) m
prefix_take_left zero l m p = tt
prefix_take_left (suc n) [] m p = tt
prefix_take_left (suc n) (x ∷ xs) [] p = absurd p
prefix_take_left (suc n) (x ∷ xs) (y ∷ ys) p = (p.0, prefix_take_left n xs ys p.1)

prefix_take : (n m : ℕ) (k l : List ℕ) → n ≤ m → Prefix k l → Prefix (take n k) (take m l)
prefix_take zero m k l h p = tt
prefix_take (suc n) m [] l h p = tt
prefix_take (suc n) m (x ∷ k) [] h p = absurd p
prefix_take (suc n) zero (x ∷ k) (y ∷ l) h p = absurd (omega arith)
prefix_take (suc n) (suc m) (x ∷ k) (y ∷ l) h p = (p.0, prefix_take n m k l (omega arith) p.1)

-- b is taken out of both
prefix_without : (b : ℕ) (l m : List ℕ) → Prefix l m → has b l ≡ true → Prefix (without b l) (without b m)
prefix_without b [] m p h = tt
prefix_without b (x ∷ xs) [] p h = absurd p
prefix_without b (x ∷ xs) (y ∷ ys) p h =
    let same : eqb b y ≡ eqb b x = ap (λ v. eqb b v) (sym p.0) in
    rw same (by (eqb b x) h (λ k. prefix_without b xs ys p.1 k)) where
      by : (t : Bool) → (t || has b xs) ≡ true → (has b xs ≡ true → Prefix (without b xs) (without b ys)) → Prefix (cond t xs (x ∷ without b xs)) (cond t ys (y ∷ without b ys))
      by true k i = p.1
      by false k i = (p.0, i k)

-- only the longer one has b
prefix_beside : (b : ℕ) (l m : List ℕ) → Prefix l m → has b l ≡ false → Prefix l (without b m)
prefix_beside b [] m p h = tt
prefix_beside b (x ∷ xs) [] p h = absurd p
prefix_beside b (x ∷ xs) (y ∷ ys) p h =
    let parts = or_parts (eqb b x) (has b xs) h in
    let off : eqb b y ≡ false = ap (λ v. eqb b v) (sym p.0) ∙ parts.0 in
    rw off (p.0, prefix_beside b xs ys p.1 parts.1)

-- a front part stays one when both move on, the whole with as many ways or more
pub prefix_step_wider : (w v b : ℕ) (l m : List ℕ) → w ≤ v → Prefix l m → Prefix (lru_step w b l) (lru_step v b m)
prefix_step_wider w v b l m k p =
    ⊎_elim
    (λ (e : has b l ≡ true). let e' = prefix_has b l m p e in rw (e, e') (refl, prefix_without b l m p e))
    (λ (e : has b l ≡ false).
    rw e (⊎_elim
    (λ (e' : has b m ≡ true). rw e' (prefix_take_left w (b ∷ l) (b ∷ without b m) (refl, prefix_beside b l m p e)))
    (λ (e' : has b m ≡ false). rw e' (prefix_take w v (b ∷ l) (b ∷ m) k (refl, p)))
    (cases_Bool (has b m))))
    (cases_Bool (has b l))

-- a front part stays one under the same step
pub prefix_step : (w b : ℕ) (l m : List ℕ) → Prefix l m → Prefix (lru_step w b l) (lru_step w b m)
prefix_step w b l m p = prefix_step_wider w w b l m (omega arith) p

prefix_distinct : (l m : List ℕ) → Prefix l m → distinct m ≡ true → distinct l ≡ true
prefix_distinct [] m p h = refl
prefix_distinct (x ∷ xs) [] p h = absurd p
prefix_distinct (x ∷ xs) (y ∷ ys) p h =
    let e : has x ys ≡ has y ys = ap (λ v. has v ys) p.0 in
    let i = prefix_distinct xs ys p.1 in
    let j = prefix_has x xs ys p.1 in
    grind (arith, nat_tests)

prefix_of_set : (sets s : ℕ) (l m : List ℕ) → Prefix l m → of_set sets s m ≡ true → of_set sets s l ≡ true
prefix_of_set sets s [] m p h = refl
prefix_of_set sets s (x ∷ xs) [] p h = absurd p
prefix_of_set sets s (x ∷ xs) (y ∷ ys) p h =
    let q = and_parts (eqb (set_of sets y) s) (of_set sets s ys) h in
    and_from _ _ (ap (λ v. eqb (set_of sets v) s) p.0 ∙ q.0) (prefix_of_set sets s xs ys p.1 q.1)

prefix_length : (l m : List ℕ) → Prefix l m → length l ≤ length m
prefix_length [] m p = omega arith
prefix_length (x ∷ xs) [] p = absurd p
prefix_length (x ∷ xs) (y ∷ ys) p = let i = prefix_length xs ys p.1 in omega arith

prefix_is_list : (sets w s : ℕ) (l m : List ℕ) → Prefix l m → is_list sets w s m ≡ true → is_list sets w s l ≡ true
prefix_is_list sets w s l m p h =
    let q = and_parts (distinct m) (of_set sets s m && leb (length m) w) h in
    let r = and_parts (of_set sets s m) (leb (length m) w) q.1 in
    let n = prefix_length l m p in
    let k = leb-true (length m) w r.1 in
    and_from _ _ (prefix_distinct l m p q.0) (and_from _ _ (prefix_of_set sets s l m p r.0) (le-leb _ _ (omega arith)))

prefixes_from : (sets w s : ℕ) (row own : List (List ℕ)) → Paired Prefix row own → lists_from sets w s own ≡ true → lists_from sets w s row ≡ true
prefixes_from sets w s [] [] p h = h
prefixes_from sets w s [] (m ∷ own) p h = absurd p
prefixes_from sets w s (l ∷ row) [] p h = absurd p
prefixes_from sets w s (l ∷ row) (m ∷ own) p h =
    let q = and_parts (is_list sets w s m) (lists_from sets w (suc s) own) h in
    and_from _ _ (prefix_is_list sets w s l m p.0 q.0) (prefixes_from sets w (suc s) row own p.1 q.1)

module _ (sets w : ℕ) (row own : List (List ℕ)) (p : Paired Prefix row own) (h : is_row sets w own ≡ true) where
  -- the front parts of a row's lists form a row
  pub prefixes_are_row : is_row sets w row ≡ true
  prefixes_are_row = prefixes_from sets w 0 row own p h

  module _ (some : 1 ≤ sets) (b : ℕ) where
    prefix_of_list : Prefix (list_of sets b row) (list_of sets b own)
    prefix_of_list = paired_at Prefix row own (set_of sets b) [] [] (set_within sets w some b own h) p

    -- what they hold, the row holds
    pub prefixes_have : has b (list_of sets b row) ≡ true → has b (list_of sets b own) ≡ true
    prefixes_have = prefix_has b (list_of sets b row) (list_of sets b own) prefix_of_list

    -- and they stay front parts when both move on
    pub prefixes_step : Paired Prefix (row_step sets w b row) (row_step sets w b own)
    prefixes_step = paired_set Prefix row own (set_of sets b) _ _ p (prefix_step w b (list_of sets b row) (list_of sets b own) prefix_of_list)

-- empty lists are front parts of any
pub empty_prefixes : (sets w : ℕ) (own : List (List ℕ)) → is_row sets w own ≡ true → Paired Prefix (empty_row sets) own
empty_prefixes sets w own h = paired_replicate Prefix sets [] own (row_length sets w own h) (λ _. tt)
