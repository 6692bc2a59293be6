-- One block more in the counts of the cache sets. Assumes nothing.
use Rattle.std.proofs.Common.{◌≡◌, ℕ, zero, suc, ◌+◌, ◌<◌, ◌≤◌, Bool, true, false, cond, ◌&&◌, List, length, get_or, set, replicate, sym, refl, ap, ◌∙◌, inl, inr, add-zero, arith, length-set, get_or-set_other, get_or-set_same}
use lib.ListN.{length-replicate, get_or-replicate}
use Rattle.std.proofs.lemmas.Bool.{and_from, and_left, and_right, cases_eq, cond-true, cond-false, eq-eqb, ne_eqb}
use Rattle.recency.specs.Blocks.{set_of}
use Rattle.numbers.specs.Counts.{count_below, Counted}
use Rattle.numbers.specs.Numbers.{is_in}

pub count_few : (test : ℕ → Bool) (n : ℕ) → count_below test n ≤ n
count_few test zero = omega arith
count_few test (suc n) =
    let few = count_few test n in
    elim (test n) as (λ v. count_below test n + cond v 1 0 ≤ suc n) [ true ↦ omega arith | false ↦ omega arith ]

counted_one : (test : ℕ → Bool) (n : ℕ) → test n ≡ true → count_below test (suc n) ≡ count_below test n + 1
counted_one test n h = ap (λ (k : ℕ). count_below test n + k) (cond-true (test n) 1 0 h)

counted_none : (test : ℕ → Bool) (n : ℕ) → test n ≡ false → count_below test (suc n) ≡ count_below test n
counted_none test n h = ap (λ (k : ℕ). count_below test n + k) (cond-false (test n) 1 0 h) ∙ add-zero _

pub few_start : (s : ℕ) → s < 64 → get_or (replicate 64 0) s 0 ≤ 0
few_start s small = let e = get_or-replicate {A = ℕ} 64 s 0 0 small in omega arith

-- a count that rises by one still is at most the number of blocks
pub few_more : (cells : List ℕ) (h n : ℕ) → length cells ≡ 64 → h < 64 → ((s : ℕ) → s < 64 → get_or cells s 0 ≤ n) → (s : ℕ) → s < 64 → get_or (set cells h (get_or cells h 0 + 1)) s 0 ≤ n + 1
few_more cells h n room within few s small =
    let inside : h < length cells = omega arith in
    let here = few h within in
    let there = few s small in
    elim (cases_eq h s) [
      | inl e ↦ let k = ap (λ (j : ℕ). get_or (set cells h (get_or cells h 0 + 1)) j 0) (sym e) ∙ get_or-set_same cells h (get_or cells h 0 + 1) 0 inside in omega arith
      | inr ne ↦ let k = get_or-set_other cells h s (get_or cells h 0 + 1) 0 (λ e. ne (sym e)) in omega arith
    ]

pub counted_start : (test : ℕ → ℕ → Bool) → Counted (replicate 64 0) test 0
counted_start test = (length-replicate {A = ℕ} 64 0, λ s small. get_or-replicate 64 s 0 0 small)

module _ (cells : List ℕ) (test : ℕ → ℕ → Bool) (n : ℕ) (counted : Counted cells test n) where
  next : suc n ≡ n + 1
  next = omega arith

  -- n passes the test of cell h, and no other
  pub counted_in : (h : ℕ) → h < 64 → test h n ≡ true → ((s : ℕ) → (h ≡ s → ⊥) → test s n ≡ false) → Counted (set cells h (get_or cells h 0 + 1)) test (n + 1)
  counted_in h within passes others =
      let room = counted.0 in
      let inside : h < length cells = omega arith in (
        length-set cells h _ ∙ room,
        λ s small. elim (cases_eq h s) [
          | inl e ↦ ap (λ (k : ℕ). get_or (set cells h (get_or cells h 0 + 1)) k 0) (sym e) ∙ get_or-set_same cells h _ 0 inside ∙ ap (λ (k : ℕ). k + 1) (counted.1 h within)
              ∙ sym (counted_one (test h) n passes) ∙ ap (count_below (test h)) next ∙ ap (λ (k : ℕ). count_below (test k) (n + 1)) e
          | inr ne ↦ get_or-set_other cells h s _ 0 (λ e. ne (sym e)) ∙ counted.1 s small ∙ sym (counted_none (test s) n (others s ne)) ∙ ap (count_below (test s)) next
        ],
      )

  pub counted_nowhere : ((s : ℕ) → test s n ≡ false) → Counted cells test (n + 1)
  counted_nowhere fails = (counted.0, λ s small. counted.1 s small ∙ sym (counted_none (test s) n (fails s)) ∙ ap (count_below (test s)) next)

  pub counted_all : (m : ℕ) → n ≡ m → Counted cells test m
  counted_all m e = (counted.0, λ s small. counted.1 s small ∙ ap (count_below (test s)) e)

  -- a count has room for one more
  pub count_within : (h : ℕ) → h < 64 → get_or cells h 0 ≤ n
  count_within h within = let e = counted.1 h within in let few = count_few (test h) n in omega arith

-- tests that say the same count the same
count_same : (f g : ℕ → Bool) (n : ℕ) → ((i : ℕ) → f i ≡ g i) → count_below f n ≡ count_below g n
count_same f g zero e = refl
count_same f g (suc n) e = ap (λ (k : ℕ). k + cond (f n) 1 0) (count_same f g n e) ∙ ap (λ (b : Bool). count_below g n + cond b 1 0) (e n)

pub counted_same : (cells : List ℕ) (f g : ℕ → ℕ → Bool) (n : ℕ) → ((s i : ℕ) → f s i ≡ g s i) → Counted cells f n → Counted cells g n
counted_same cells f g n e h = (h.0, λ s small. h.1 s small ∙ count_same (f s) (g s) n (e s))

-- a listed block is counted in its own cache set, where it passes one test more
module _ (sets : ℕ) (blocks cells : List ℕ) (more : ℕ → ℕ → Bool) (n : ℕ) (counted : Counted cells (λ s i. is_in sets blocks s i && more s i) n) where
  pub block_counted : (h : ℕ) → h < 64 → h ≡ set_of sets (get_or blocks n 0) → more h n ≡ true → Counted (set cells h (get_or cells h 0 + 1)) (λ s i. is_in sets blocks s i && more s i) (n + 1)
  block_counted h within home passes =
      counted_in cells _ n counted h within (and_from _ _ (eq-eqb _ _ (sym home)) passes) (λ s ne. and_left _ _ (ne_eqb _ _ (λ e. ne (home ∙ e))))

  pub block_left : (h : ℕ) → h ≡ set_of sets (get_or blocks n 0) → more h n ≡ false → Counted cells (λ s i. is_in sets blocks s i && more s i) (n + 1)
  block_left h home fails =
      counted_nowhere cells _ n counted (λ s. elim (cases_eq h s) [
        | inl e ↦ and_right _ _ (ap (λ (k : ℕ). more k n) (sym e) ∙ fails)
        | inr ne ↦ and_left _ _ (ne_eqb _ _ (λ e. ne (home ∙ e)))
      ])
