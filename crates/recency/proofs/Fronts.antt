-- Where a block stands in a list, and how a step of another block moves it. Assumes nothing.
use Rattle.std.proofs.Common.{◌≡◌, ℕ, zero, suc, ◌<◌, ◌≤◌, true, false, ◌&&◌, ltb, List, [], ◌∷◌, length, take, sym, refl, ap, ◌∙◌, arith, length-take}
use Rattle.std.proofs.lemmas.List.{take_all}
use Rattle.std.proofs.lemmas.Bool.{cond_both, ne_eqb, eq-eqb, and_right, lt-ltb, le-ltb}
use Rattle.std.proofs.lemmas.Bool.Decides.{nat_tests}
use Rattle.recency.specs.Blocks.{has}
use Rattle.recency.specs.Recency.{without, lru_step, front}
use Rattle.recency.proofs.Steps.{without_length, has_without, step_length}

-- a block stands behind its front, within the list
pub front_short : (x : ℕ) (l : List ℕ) → has x l ≡ true → length (front x l) < length l
front_short x [] h = absurd (let z : ◌≡◌ {A = ℕ} 0 1 = cc in omega arith)
front_short x (y ∷ l) h = let i = front_short x l in grind (arith, nat_tests)

-- all blocks stand in front of one that is not there
pub front_all : (x : ℕ) (l : List ℕ) → has x l ≡ false → front x l ≡ l
front_all x [] h = refl
front_all x (y ∷ l) h = let i = front_all x l in grind (arith, nat_tests)

-- no more blocks stand in front of one than there are
pub front_length : (x : ℕ) (l : List ℕ) → length (front x l) ≤ length l
front_length x [] = omega arith
front_length x (y ∷ l) = let i = front_length x l in grind (arith, nat_tests)

-- blocks that do not stand in a list do not stand in front of one of its blocks
pub front_fewer : (x c : ℕ) (l : List ℕ) → has c l ≡ false → has c (front x l) ≡ false
front_fewer x c [] h = refl
front_fewer x c (y ∷ l) h = let i = front_fewer x c l in grind (arith, nat_tests)

-- the first n of a list
pub front_take : (n x : ℕ) (l : List ℕ) → front x (take n l) ≡ take n (front x l)
front_take zero x l = refl
front_take (suc n) x [] = refl
front_take (suc n) x (y ∷ l) = let i = front_take n x l in grind (arith, nat_tests)

-- taking out another block
pub front_without : (x b : ℕ) (l : List ℕ) → (x ≡ b → ⊥) → front x (without b l) ≡ without b (front x l)
front_without x b [] n = refl
front_without x b (y ∷ l) n = let i = front_without x b l n in grind (arith, nat_tests)

-- nothing is taken out where the block is not there
pub without_none : (b : ℕ) (l : List ℕ) → has b l ≡ false → without b l ≡ l
without_none b [] h = refl
without_none b (y ∷ l) h = let i = without_none b l in grind (arith, nat_tests)

-- at most one block is taken out
without_fewer_by_one : (b : ℕ) (l : List ℕ) → length l ≤ suc (length (without b l))
without_fewer_by_one b [] = omega arith
without_fewer_by_one b (y ∷ l) = let i = without_fewer_by_one b l in grind (arith, nat_tests)

-- the first n of a list have the blocks with fewer than n in front of them
has_take : (n x : ℕ) (l : List ℕ) → has x (take n l) ≡ (has x l && ltb (length (front x l)) n)
has_take zero x l = sym (and_right (has x l) (ltb (length (front x l)) 0) (le-ltb _ _ (omega arith)))
has_take (suc n) x [] = refl
has_take (suc n) x (y ∷ l) = let i = has_take n x l in grind (arith, nat_tests)

-- the block of an access stands first
pub step_front_itself : (w b : ℕ) (l : List ℕ) → front b (lru_step w b l) ≡ []
step_front_itself zero b l = cond_both (has b l) (b ∷ without b l) [] (λ m. front b m ≡ []) (λ _. rw (eq-eqb b b refl)) (λ _. refl)
step_front_itself (suc w) b l = cond_both (has b l) (b ∷ without b l) (b ∷ take w l) (λ m. front b m ≡ []) (λ _. rw (eq-eqb b b refl)) (λ _. rw (eq-eqb b b refl))

module _ (w x b : ℕ) (l : List ℕ) (other : x ≡ b → ⊥) where
  behind : (m : List ℕ) → front x (b ∷ m) ≡ b ∷ front x m
  behind m = rw (ne_eqb x b other)

  -- x, another block, then has b in front of it, and the blocks that stood in front of it before, without b
  pub step_front : length l ≤ w → front x (lru_step w b l) ≡ take w (b ∷ without b (front x l))
  step_front h =
      cond_both (has b l) (b ∷ without b l) (take w (b ∷ l)) (λ m. front x m ≡ take w (b ∷ without b (front x l)))
      (λ e.
      let n = without_length b l e in
      let k = front_length x (without b l) in
      let moved = behind (without b l) ∙ ap {B = List ℕ} (λ m. b ∷ m) (front_without x b l other) in
      let short : length (b ∷ without b (front x l)) ≤ w = rw (← front_without x b l other) (omega arith) in
      moved ∙ sym (take_all w _ short))
      (λ e.
      front_take w x (b ∷ l)
      ∙ ap (take w) (behind l)
      ∙ ap {B = List ℕ} (λ m. take w (b ∷ m)) (sym (without_none b (front x l) (front_fewer x b l e))))

  -- the same where x stays in the list
  pub step_front_kept : length l ≤ w → has x (lru_step w b l) ≡ true → front x (lru_step w b l) ≡ b ∷ without b (front x l)
  step_front_kept h k =
      let s = front_short x (lru_step w b l) k in
      let n = step_length w b l h in
      let f = step_front h in
      let c = length-take w (b ∷ without b (front x l)) in
      let e = ap length f in
      let short : length (b ∷ without b (front x l)) ≤ w = omega arith in
      f ∙ take_all w _ short

  -- so it only moves back: no fewer blocks stand in front of it than before
  pub step_place : length l ≤ w → length (front x l) ≤ length (front x (lru_step w b l))
  step_place h =
      let e = ap length (step_front h) in
      let c = length-take w (b ∷ without b (front x l)) in
      let n = front_length x l in
      let m = without_fewer_by_one b (front x l) in
      omega arith

  -- it stays in the list where fewer than w blocks then stand in front of it
  pub step_keeps : length l ≤ w → has x (lru_step w b l) ≡ (has x l && ltb (length (b ∷ without b (front x l))) w)
  step_keeps h =
      cond_both (has b l) (b ∷ without b l) (take w (b ∷ l)) (λ m. has x m ≡ (has x l && ltb (length (b ∷ without b (front x l))) w))
      (λ e.
      let n = without_length b l e in
      let there = has_without b x l other in
      let short : has x l ≡ true → ltb (length (b ∷ without b (front x l))) w ≡ true =
      λ k. let s = front_short x (without b l) (there ∙ k) in rw (← front_without x b l other) (lt-ltb _ _ (omega arith)) in
      grind (arith, nat_tests))
      (λ e.
      let f = behind l ∙ ap {B = List ℕ} (λ m. b ∷ m) (sym (without_none b (front x l) (front_fewer x b l e))) in
      has_take w x (b ∷ l) ∙ ap (λ m. has x (b ∷ l) && ltb (length m) w) f ∙ rw (ne_eqb x b other))
