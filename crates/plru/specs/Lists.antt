-- Laws of lists of blocks: where a block stands, and what stands in front of it. Assumes nothing.
use Rattle.std.specs.Prelude.{◌≡◌, ℕ, zero, suc, ◌+◌, ◌<◌, ◌≤◌, Bool, true, false, cond, List, [], ◌∷◌, ◌++◌, length, take, drop, replicate, Some, None, ◌==◌, ◌≢◌, nat_lt, position, slice_index, slice_set, refl}
use Rattle.std.specs.List.{position_or_len}
use Rattle.std.proofs.Common.{sym, ap, ◌∙◌, arith, add-one, drop_of_length-le, drop-cons}
use Rattle.std.proofs.lemmas.Bool.{eq-eqb, ne_eqb, cond-true, cond-false}
use Rattle.std.proofs.lemmas.Bool.Decides.{nat_tests}
use Rattle.recency.specs.Blocks.{has, distinct}
use Rattle.recency.specs.Recency.{without, front}
use Rattle.recency.specs.Paired.{Paired}
use Rattle.recency.proofs.Steps.{has_without, without_length}
use Rattle.plru.specs.Sets.{index_of}

-- where a block stands
pub index_within : (x : ℕ) (l : List ℕ) → has x l ≡ true → index_of x l < length l
index_within x [] h = absurd (let z : ◌≡◌ {A = ℕ} 0 1 = cc in omega arith)
index_within x (y ∷ l) h = let i = index_within x l in grind (arith, nat_tests)

-- the place that a search for a block finds
found_place : (b : ℕ) (l : List ℕ) → position_or_len (λ x. x == b) l ≡ index_of b l
found_place b [] = refl
found_place b (y ∷ l) = let i = found_place b l in grind (arith, nat_tests)

pub index_has : (x : ℕ) (l : List ℕ) → index_of x l < length l → has x l ≡ true
index_has x [] h = absurd (omega arith)
index_has x (y ∷ l) h = let i = index_has x l in grind (arith, nat_tests)

pub index_lacks : (x : ℕ) (l : List ℕ) → length l ≤ index_of x l → has x l ≡ false
index_lacks x [] h = refl
index_lacks x (y ∷ l) h = let i = index_lacks x l in grind (arith, nat_tests)

index_most : (x : ℕ) (l : List ℕ) → index_of x l ≤ length l
index_most x [] = omega arith
index_most x (y ∷ l) = let i = index_most x l in grind (arith, nat_tests)

index_tells : (b : ℕ) (l : List ℕ) → nat_lt (index_of b l) (length l) ≡ has b l
index_tells b [] = refl
index_tells b (y ∷ l) = let i = index_tells b l in grind (arith, nat_tests)

module _ (b : ℕ) (l : List ℕ) where
  searched : position (λ x. x == b) l ≡ cond (has b l) (Some (index_of b l)) None
  searched = rw (found_place b l, index_tells b l) refl

  pub found : (i : ℕ) → position (λ x. x == b) l ≡ Some i → (has b l ≡ true) × (i ≡ index_of b l)
  found i e = by (has b l) refl (sym searched ∙ e) where
    by : (t : Bool) → has b l ≡ t → cond t (Some (index_of b l)) None ≡ Some i → (has b l ≡ true) × (i ≡ index_of b l)
    by true h k = (h, cc)
    by false h k = absurd (let z : ◌≡◌ {A = ℕ} 0 1 = cc in omega arith)

  pub not_found : position (λ x. x == b) l ≡ None → has b l ≡ false
  not_found e = by (has b l) refl (sym searched ∙ e) where
    by : (t : Bool) → has b l ≡ t → cond t (Some (index_of b l)) None ≡ None → has b l ≡ false
    by true h k = absurd (let z : ◌≡◌ {A = ℕ} 0 1 = cc in omega arith)
    by false h k = h

pub index_append : (x : ℕ) (l m : List ℕ) → has x l ≡ true → index_of x (l ++ m) ≡ index_of x l
index_append x [] m h = absurd (let z : ◌≡◌ {A = ℕ} 0 1 = cc in omega arith)
index_append x (y ∷ l) m h = let i = index_append x l m in grind (arith, nat_tests)

pub has_append : (x : ℕ) (l m : List ℕ) → has x l ≡ true → has x (l ++ m) ≡ true
has_append x [] m h = absurd (let z : ◌≡◌ {A = ℕ} 0 1 = cc in omega arith)
has_append x (y ∷ l) m h = let i = has_append x l m in grind (arith, nat_tests)

-- a new block at the end
pub index_end : (b : ℕ) (l : List ℕ) → has b l ≡ false → index_of b (l ++ (b ∷ [])) ≡ length l
index_end b [] h = grind (arith, nat_tests)
index_end b (y ∷ l) h = let i = index_end b l in grind (arith, nat_tests)

pub has_end : (b : ℕ) (l : List ℕ) → has b (l ++ (b ∷ [])) ≡ true
has_end b [] = grind (arith, nat_tests)
has_end b (y ∷ l) = let i = has_end b l in grind (arith, nat_tests)

-- a new block in place of another one
pub index_set_new : (b : ℕ) (l : List ℕ) (i : ℕ) → has b l ≡ false → i < length l → index_of b (slice_set l i b) ≡ i
index_set_new b [] i h k = absurd (omega arith)
index_set_new b (y ∷ l) zero h k = grind (arith, nat_tests)
index_set_new b (y ∷ l) (suc i) h k = let r = index_set_new b l i in grind (arith, nat_tests)

pub has_set_new : (b : ℕ) (l : List ℕ) (i : ℕ) → i < length l → has b (slice_set l i b) ≡ true
has_set_new b [] i k = absurd (omega arith)
has_set_new b (y ∷ l) zero k = grind (arith, nat_tests)
has_set_new b (y ∷ l) (suc i) k = let r = has_set_new b l i in grind (arith, nat_tests)

pub index_set : (x b : ℕ) (l : List ℕ) (i : ℕ) → (x ≢ b) → (index_of x l ≢ i) → index_of x (slice_set l i b) ≡ index_of x l
index_set x b [] i n m = refl
index_set x b (y ∷ l) zero n m = grind (arith, nat_tests)
index_set x b (y ∷ l) (suc i) n m = let r = index_set x b l i n in grind (arith, nat_tests)

pub has_set : (x b : ℕ) (l : List ℕ) (i : ℕ) → (index_of x l ≢ i) → has x l ≡ true → has x (slice_set l i b) ≡ true
has_set x b [] i m h = h
has_set x b (y ∷ l) zero m h = grind (arith, nat_tests)
has_set x b (y ∷ l) (suc i) m h = let r = has_set x b l i in grind (arith, nat_tests)

-- what stands in front of a block
pub front_has : (x y : ℕ) (l : List ℕ) → has y (front x l) ≡ true → has y l ≡ true
front_has x y [] h = h
front_has x y (z ∷ l) h = let i = front_has x y l in grind (arith, nat_tests)

pub front_without : (x y b : ℕ) (l : List ℕ) → (x ≢ b) → (y ≢ b) → has y (front x l) ≡ true → has y (front x (without b l)) ≡ true
front_without x y b [] n m h = h
front_without x y b (z ∷ l) n m h = let i = front_without x y b l n m in grind (arith, nat_tests)

pub front_take : (n x y : ℕ) (l : List ℕ) → has x (take n l) ≡ true → has y (front x l) ≡ true → has y (front x (take n l)) ≡ true
front_take zero x y l k h = absurd (let z : ◌≡◌ {A = ℕ} 0 1 = cc in omega arith)
front_take (suc n) x y [] k h = h
front_take (suc n) x y (z ∷ l) k h = let i = front_take n x y l in grind (arith, nat_tests)

pub front_short : (n x : ℕ) (l : List ℕ) → has x (take n l) ≡ true → length (front x l) < n
front_short zero x l k = absurd (let z : ◌≡◌ {A = ℕ} 0 1 = cc in omega arith)
front_short (suc n) x [] k = absurd (let z : ◌≡◌ {A = ℕ} 0 1 = cc in omega arith)
front_short (suc n) x (z ∷ l) k = let i = front_short n x l in grind (arith, nat_tests)

pub take_of : (n x : ℕ) (l : List ℕ) → has x (take n l) ≡ true → has x l ≡ true
take_of zero x l k = absurd (let z : ◌≡◌ {A = ℕ} 0 1 = cc in omega arith)
take_of (suc n) x [] k = k
take_of (suc n) x (z ∷ l) k = let i = take_of n x l in grind (arith, nat_tests)

-- distinct blocks of a list are no more than the list has
pub distinct_fit : (l m : List ℕ) → distinct l ≡ true → ((y : ℕ) → has y l ≡ true → has y m ≡ true) → length l ≤ length m
distinct_fit [] m d h = omega arith
distinct_fit (x ∷ l) m d h =
    let here : has x m ≡ true = h x (grind (arith, nat_tests)) in
    let off : has x l ≡ false = grind (arith, nat_tests) in
    let apart : distinct l ≡ true = grind (arith, nat_tests) in
    let i = distinct_fit l (without x m) apart (λ y k.
    let n : y ≡ x → ⊥ = λ e. (let z : ◌≡◌ {A = ℕ} 0 1 = cc in omega arith) in
    has_without x y m n ∙ h y (grind (arith, nat_tests))) in
    let n = without_length x m here in
    omega arith

pub has_rest : (x y : ℕ) (l : List ℕ) → (x ≢ y) → has x (y ∷ l) ≡ true → has x l ≡ true
has_rest x y l n h = grind (arith, nat_tests)

pub distinct_more : (y : ℕ) (l : List ℕ) → has y l ≡ false → distinct l ≡ true → distinct (y ∷ l) ≡ true
distinct_more y l h d = grind (arith, nat_tests)

-- a search for a block, from the place i on
pub index_goes : (b : ℕ) (l : List ℕ) (i : ℕ) → i < length l → (slice_index l i ≢ b) → i + index_of b (drop i l) ≡ index_of b l → i + 1 + index_of b (drop (i + 1) l) ≡ index_of b l
index_goes b l i h n e =
    let s : index_of b (drop i l) ≡ suc (index_of b (drop (i + 1) l)) = ap (index_of b) (drop-cons l i 0 h) ∙ cond-false _ _ _ (ne_eqb b (slice_index l i) (λ k. n (sym k))) ∙ ap (λ k. suc (index_of b (drop k l))) (sym (add-one i)) in
    omega arith

pub index_stops : (b : ℕ) (l : List ℕ) (i : ℕ) → i < length l → slice_index l i ≡ b → i + index_of b (drop i l) ≡ index_of b l → i ≡ index_of b l
index_stops b l i h n e =
    let s : index_of b (drop i l) ≡ 0 = ap (index_of b) (drop-cons l i 0 h) ∙ cond-true _ _ _ (eq-eqb b (slice_index l i) (sym n)) in
    omega arith

pub index_done : (b : ℕ) (l : List ℕ) (i : ℕ) → length l ≤ i → i + index_of b (drop i l) ≡ index_of b l → length l ≡ index_of b l
index_done b l i h e =
    let s : index_of b (drop i l) ≡ 0 = ap (index_of b) (drop_of_length-le l h) in
    let n = index_most b l in
    omega arith

-- lists paired with one element over and over
module _ {A B : Type 0} (R : A → B → Type 0) where
  pub paired_with_replicate : (n : ℕ) (xs : List A) (b : B) → length xs ≡ n → ((x : A) → R x b) → Paired R xs (replicate n b)
  paired_with_replicate zero [] b e r = tt
  paired_with_replicate zero (x ∷ xs) b e r = absurd (omega arith)
  paired_with_replicate (suc n) [] b e r = absurd (omega arith)
  paired_with_replicate (suc n) (x ∷ xs) b e r = (r x, paired_with_replicate n xs b (omega arith) r)
