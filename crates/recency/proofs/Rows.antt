-- An access keeps a row a row. Assumes nothing.
use Rattle.std.proofs.Common.{◌≡◌, ℕ, zero, suc, ◌+◌, ◌%◌, ◌<◌, ◌≤◌, true, ◌&&◌, leb, List, [], ◌∷◌, length, get_or, set, replicate, sym, refl, ap, ◌∙◌, mod-lt, arith}
use Rattle.std.proofs.lemmas.List.{get_or-set_same, get_or-set_other}
use Rattle.std.proofs.lemmas.Bool.{and_parts, and_from, eqb-true, eq-eqb, le-leb, leb-true}
use Rattle.recency.specs.Blocks.{has, distinct, of_set, set_of}
use Rattle.recency.specs.Recency.{lru_step}
use Rattle.recency.specs.Rows.{is_list, lists_from, is_row, empty_row, list_of, row_step}
use Rattle.recency.proofs.Steps.{step_is_list, step_has}

module _ (sets w : ℕ) where
  lists_length : (s : ℕ) (row : List (List ℕ)) → lists_from sets w s row ≡ true → s + length row ≡ sets
  lists_length s [] h = let e = eqb-true s sets h in omega arith
  lists_length s (l ∷ row) h = let p = and_parts (is_list sets w s l) (lists_from sets w (suc s) row) h in let i = lists_length (suc s) row p.1 in omega arith

  pub row_length : (row : List (List ℕ)) → is_row sets w row ≡ true → length row ≡ sets
  row_length row h = let n = lists_length 0 row h in omega arith

  lists_at : (s i : ℕ) (row : List (List ℕ)) → i < length row → lists_from sets w s row ≡ true → is_list sets w (s + i) (get_or row i []) ≡ true
  lists_at s i [] l h = absurd (omega arith)
  lists_at s zero (r ∷ row) l h = let p = and_parts (is_list sets w s r) (lists_from sets w (suc s) row) h in let e : s + 0 ≡ s = omega arith in ap (λ n. is_list sets w n r) e ∙ p.0
  lists_at s (suc i) (r ∷ row) l h =
      let p = and_parts (is_list sets w s r) (lists_from sets w (suc s) row) h in
      let e : s + suc i ≡ suc s + i = omega arith in
      ap (λ n. is_list sets w n (get_or row i [])) e ∙ lists_at (suc s) i row (omega arith) p.1

  lists_set : (s i : ℕ) (row : List (List ℕ)) (l : List ℕ) → is_list sets w (s + i) l ≡ true → lists_from sets w s row ≡ true → lists_from sets w s (set row i l) ≡ true
  lists_set s i [] l k h = h
  lists_set s zero (r ∷ row) l k h =
      let p = and_parts (is_list sets w s r) (lists_from sets w (suc s) row) h in
      let e : s ≡ s + 0 = omega arith in
      and_from _ _ (ap (λ n. is_list sets w n l) e ∙ k) p.1
  lists_set s (suc i) (r ∷ row) l k h =
      let p = and_parts (is_list sets w s r) (lists_from sets w (suc s) row) h in
      let e : suc s + i ≡ s + suc i = omega arith in
      and_from _ _ p.0 (lists_set (suc s) i row l (ap (λ n. is_list sets w n l) e ∙ k) p.1)

  lists_empty : (s n : ℕ) → s + n ≡ sets → lists_from sets w s (replicate n []) ≡ true
  lists_empty s zero e = eq-eqb s sets (omega arith)
  lists_empty s (suc n) e = and_from _ _ (le-leb 0 w (omega arith)) (lists_empty (suc s) n (omega arith))

  pub empty_is_row : is_row sets w (empty_row sets) ≡ true
  empty_is_row = lists_empty 0 sets (omega arith)

  module _ (some : 1 ≤ sets) (b : ℕ) (row : List (List ℕ)) (h : is_row sets w row ≡ true) where
    pub set_within : set_of sets b < length row
    set_within = let n = row_length row h in let m : b % sets < sets = mod-lt b some in omega arith

    pub list_is_list : is_list sets w (set_of sets b) (list_of sets b row) ≡ true
    list_is_list = let e : 0 + set_of sets b ≡ set_of sets b = omega arith in sym (ap (λ n. is_list sets w n (list_of sets b row)) e) ∙ lists_at 0 (set_of sets b) row set_within h

    pub list_short : length (list_of sets b row) ≤ w
    list_short =
        let l = list_of sets b row in
        let p = and_parts (distinct l) (of_set sets (set_of sets b) l && leb (length l) w) list_is_list in
        leb-true (length l) w (and_parts (of_set sets (set_of sets b) l) (leb (length l) w) p.1).1

    -- another list of the same set in its place
    pub set_is_row : (l : List ℕ) → is_list sets w (set_of sets b) l ≡ true → is_row sets w (set row (set_of sets b) l) ≡ true
    set_is_row l k = let e : 0 + set_of sets b ≡ set_of sets b = omega arith in lists_set 0 (set_of sets b) row l (ap (λ n. is_list sets w n l) e ∙ k) h

    pub step_is_row : is_row sets w (row_step sets w b row) ≡ true
    step_is_row = set_is_row (lru_step w b (list_of sets b row)) (step_is_list w b (list_of sets b row) sets (set_of sets b) refl list_is_list)

    -- the block of an access is in its list
    pub step_has_block : 1 ≤ w → has b (list_of sets b (row_step sets w b row)) ≡ true
    step_has_block k = ap (has b) (get_or-set_same row (set_of sets b) (lru_step w b (list_of sets b row)) [] set_within) ∙ step_has w b (list_of sets b row) k

    -- the other lists stay
    pub step_other : (c : ℕ) → (set_of sets c ≡ set_of sets b → ⊥) → list_of sets c (row_step sets w b row) ≡ list_of sets c row
    step_other c n = get_or-set_other row (set_of sets b) (set_of sets c) (lru_step w b (list_of sets b row)) [] n
