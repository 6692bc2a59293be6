-- What the methods of slices and iterators answer, in this crate's words. Assumes nothing.
use Rattle.std.proofs.Common.{◌≡◌, ℕ, zero, suc, ◌<◌, Bool, true, false, cond, not, ◌&&◌, ◌||◌, eqb, ltb, List, [], ◌∷◌, map, length, get_or, Some, None, refl, ap, ◌∙◌, sym, add-one, arith}
use Rattle.std.proofs.lemmas.Bool.{cond-true, cond-false, and_from, and_left, and_right}
use Rattle.std.proofs.lemmas.Bool.Decides.{same_from_decides, Decides-eqb, Decides-like}
use Rattle.std.specs.List.{list_any, list_all, position_from, IsAllAdjacentAnswer}
use Rattle.recency.specs.Blocks.{has}
use Rattle.task.specs.Lists.{every, first_from, rising}

eqb_swap : (a b : ℕ) → eqb a b ≡ eqb b a
eqb_swap a b = same_from_decides (eqb a b) (eqb b a) (Decides-eqb a b) (Decides-like (eqb b a) sym sym (Decides-eqb b a))

-- some element is b
pub any_has : (b : ℕ) (xs : List ℕ) → list_any (λ x. eqb x b) xs ≡ has b xs
any_has b [] = refl
any_has b (x ∷ xs) = ap (λ (v : Bool). v || list_any (λ y. eqb y b) xs) (eqb_swap x b) ∙ ap (λ v. eqb b x || v) (any_has b xs)

pub all_every : {X : Type 0} (test : X → Bool) (xs : List X) → list_all test xs ≡ every test xs
all_every test [] = refl
all_every test (x ∷ xs) = ap (λ v. test x && v) (all_every test xs)

pub position_first : {X : Type 0} (test : X → Bool) (i : ℕ) (xs : List X) → position_from test i xs ≡ first_from i test xs
position_first test i [] = refl
position_first test i (x ∷ xs) = ap (cond (test x) (Some i)) (ap (λ n. position_from test n xs) (add-one i) ∙ position_first test (suc i) xs)

pub first_map : {X Y : Type 0} (f : X → Y) (test : Y → Bool) (i : ℕ) (xs : List X) → first_from i (λ x. test (f x)) xs ≡ first_from i test (map f xs)
first_map f test i [] = refl
first_map f test i (x ∷ xs) = ap (cond (test (f x)) (Some i)) (first_map f test (suc i) xs)

every_more : {X : Type 0} (test : X → Bool) (i : ℕ) (x : X) (xs : List X) (v : Bool) → test x ≡ v → (first_from (suc i) (λ y. not (test y)) xs ≡ None → every test xs ≡ true)
    → first_from i (λ y. not (test y)) (x ∷ xs) ≡ None → every test (x ∷ xs) ≡ true
every_more test i x xs true h more e = and_from _ _ h (more (sym (cond-false _ (Some i) _ (ap not h)) ∙ e))
every_more test i x xs false h more e =
    absurd (let z = sym (cond-true _ (Some i) (first_from (suc i) (λ y. not (test y)) xs) (ap not h)) ∙ e in let y : ◌≡◌ {A = ℕ} 0 1 = cc in omega arith)

-- where none is found that fails a test, every one passes it
pub every_none : {X : Type 0} (test : X → Bool) (i : ℕ) (xs : List X) → first_from i (λ x. not (test x)) xs ≡ None → every test xs ≡ true
every_none test i [] e = refl
every_none test i (x ∷ xs) e = every_more test i x xs (test x) refl (every_none test (suc i) xs) e

rises : (xs : List ℕ) → ((k : ℕ) → suc k < length xs → ltb (get_or xs k 0) (get_or xs (suc k) 0) ≡ true) → rising xs ≡ true
rises [] h = refl
rises (x ∷ []) h = refl
rises (x ∷ y ∷ ys) h = and_from _ _ (h 0 (omega arith)) (rises (y ∷ ys) (λ k l. h (suc k) (omega arith)))

falls : (xs : List ℕ) (k : ℕ) → suc k < length xs → ltb (get_or xs k 0) (get_or xs (suc k) 0) ≡ false → rising xs ≡ false
falls [] k l h = absurd (omega arith)
falls (x ∷ []) k l h = absurd (omega arith)
falls (x ∷ y ∷ ys) zero l h = and_left _ _ h
falls (x ∷ y ∷ ys) (suc k) l h = and_right _ _ (falls (y ∷ ys) k (omega arith) h)

-- what `is_sorted_by` answers, where it asks for a rise
pub sorted_rising : (xs : List ℕ) (r : Bool) → IsAllAdjacentAnswer (λ x y b. b ≡ ltb x y) xs r → r ≡ rising xs
sorted_rising xs true h =
    sym (rises xs (λ k l. ap (λ n. ltb (get_or xs k 0) (get_or xs n 0)) (sym (add-one k)) ∙ sym (h k 0 (omega arith))))
sorted_rising xs false h =
    sym (falls xs h.0 (let l = h.1 in omega arith) (ap (λ n. ltb (get_or xs h.0 0) (get_or xs n 0)) (sym (add-one h.0)) ∙ sym (h.2 0)))
