-- Laws of the places at which a number has a 1. Assumes nothing.
use Rattle.std.proofs.Common.{◌≡◌, ℕ, zero, suc, ◌+◌, ◌/◌, ◌%◌, ◌^◌, ◌<◌, ◌≤◌, max, ◌⊎◌, sym, refl, ap, ◌∙◌, subst, inl, inr, pow-suc, div-one, arith}
use native.Mathlib.Nat.{div-div-eq-div-mul}
use lib.Arith.{half_le}
use lib.Bits.{bit_or, or_step}
use lib.Count.{ones, ones_step, ones-ones}
use Rattle.std.proofs.lemmas.Bool.{cases_eq}
use Rattle.blocksets.specs.Digits.{digit, Has, tally}

pub digit_small : (m i : ℕ) → digit m i < 2
digit_small m zero = omega arith
digit_small m (suc i) = digit_small (m / 2) i

pub digit_zero : (i : ℕ) → digit 0 i ≡ 0
digit_zero zero = refl
digit_zero (suc i) = digit_zero i

pub digit_shr : (m i : ℕ) → digit m i ≡ m / 2 ^ i % 2
digit_shr m zero = ap (λ (x : ℕ). x % 2) (sym (div-one m))
digit_shr m (suc i) =
    digit_shr (m / 2) i
    ∙ ap (λ (x : ℕ). x % 2) (div-div-eq-div-mul m 2 (2 ^ i) ∙ ap (λ (x : ℕ). m / x) (let e = pow-suc 2 i in omega arith))

or_half : (a b : ℕ) → bit_or a b / 2 ≡ bit_or (a / 2) (b / 2)
or_half a b = let e = or_step a b in omega arith

or_odd : (a b : ℕ) → bit_or a b % 2 ≡ max (a % 2) (b % 2)
or_odd a b = let e = or_step a b in omega arith

pub digit_or : (a b i : ℕ) → digit (bit_or a b) i ≡ max (digit a i) (digit b i)
digit_or a b zero = or_odd a b
digit_or a b (suc i) = ap (λ (m : ℕ). digit m i) (or_half a b) ∙ digit_or (a / 2) (b / 2) i

pub has_or : (a b i : ℕ) → Has (bit_or a b) i → Has a i ⊎ Has b i
has_or a b i h =
    let e = digit_or a b i in
    elim (cases_eq (digit a i) 1) [
      | inl y ↦ inl y
      | inr n ↦ inr (let s = digit_small a i in let t = digit_small b i in omega arith)
    ]

pub or_has_left : (a b i : ℕ) → Has a i → Has (bit_or a b) i
or_has_left a b i h = let e = digit_or a b i in let t = digit_small b i in omega arith

pub or_has_right : (a b i : ℕ) → Has b i → Has (bit_or a b) i
or_has_right a b i h = let e = digit_or a b i in let t = digit_small a i in omega arith

pub pow_has : (b : ℕ) → Has (2 ^ b) b
pow_has zero = refl
pow_has (suc b) = subst (λ (m : ℕ). Has m b) (let e = pow-suc 2 b in omega arith) (pow_has b)

pub has_pow : (b i : ℕ) → Has (2 ^ b) i → i ≡ b
has_pow zero zero h = refl
has_pow zero (suc i) h = let z = digit_zero i in absurd (omega arith)
has_pow (suc b) zero h = let e = pow-suc 2 b in absurd (omega arith)
has_pow (suc b) (suc i) h = ap suc (has_pow b i (subst (λ (m : ℕ). Has m i) (let e = pow-suc 2 b in omega arith) h))

-- what is below is below digit for digit, and the counts follow
pub ones_within : (f a b : ℕ) → a ≤ f → b ≤ f → ((i : ℕ) → Has a i → Has b i) → ones a ≤ ones b
ones_within zero a b p q h = let e : a ≡ b = omega arith in omega (arith, ap ones e)
ones_within (suc f) a b p q h =
    let r = ones_within f (a / 2) (b / 2) (half_le p) (half_le q) (λ i. h (suc i)) in
    let s = ones_step a in
    let t = ones_step b in
    elim (cases_eq (a % 2) 1) [
      | inl y ↦ let z = h 0 y in omega arith
      | inr n ↦ let z : a % 2 ≡ 0 = omega arith in omega arith
    ]

pub same_from_ones : (f a b : ℕ) → a ≤ f → b ≤ f → ((i : ℕ) → Has a i → Has b i) → ones b ≤ ones a → a ≡ b
same_from_ones zero a b p q h k = omega arith
same_from_ones (suc f) a b p q h k =
    let r = ones_within f (a / 2) (b / 2) (half_le p) (half_le q) (λ i. h (suc i)) in
    let s = ones_step a in
    let t = ones_step b in
    elim (cases_eq (a % 2) 1) [
      | inl y ↦ let z = h 0 y in let e = same_from_ones f (a / 2) (b / 2) (half_le p) (half_le q) (λ i. h (suc i)) (omega arith) in omega arith
      | inr n ↦
          let z : a % 2 ≡ 0 = omega arith in
          let e = same_from_ones f (a / 2) (b / 2) (half_le p) (half_le q) (λ i. h (suc i)) (omega arith) in
          let w = ap ones e in
          omega arith
    ]

pub within_same : (a b : ℕ) → ((i : ℕ) → Has a i → Has b i) → ones b ≤ ones a → a ≡ b
within_same a b h k = same_from_ones (a + b) a b (omega arith) (omega arith) h k

pub within_ones : (a b : ℕ) → ((i : ℕ) → Has a i → Has b i) → ones a ≤ ones b
within_ones a b h = ones_within (a + b) a b (omega arith) (omega arith) h

pub same_members : (a b : ℕ) → ((i : ℕ) → Has a i → Has b i) → ((i : ℕ) → Has b i → Has a i) → a ≡ b
same_members a b h k = within_same a b h (within_ones b a k)

-- a number whose places are below n has at most n ones, and fewer if it lacks one of them
pub ones_below : (n m : ℕ) → ((i : ℕ) → Has m i → i < n) → ones m ≤ n
ones_below zero m h =
    let e : m ≡ 0 = same_members m 0 (λ i k. absurd (let z = h i k in omega arith)) (λ i k. absurd (let z = digit_zero i in omega arith)) in
    let s : ones 0 ≡ 0 = ones-ones 0 in
    omega (arith, ap ones e)
ones_below (suc n) m h =
    let r = ones_below n (m / 2) (λ i k. let z = h (suc i) k in omega arith) in
    let s = ones_step m in
    omega arith

pub ones_lacking : (n m i : ℕ) → ((j : ℕ) → Has m j → j < n) → i < n → (Has m i → ⊥) → ones m < n
ones_lacking n m i h l no-i =
    let more = bit_or m (2 ^ i) in
    let le = ones_below n more (λ j k. elim (has_or m (2 ^ i) j k) [ inl y ↦ h j y | inr y ↦ let e = has_pow i j y in omega arith ]) in
    let up = within_ones m more (λ j k. or_has_left m (2 ^ i) j k) in
    elim (cases_eq (ones m) (ones more)) [
      | inl e ↦ absurd (no-i (subst (λ (x : ℕ). Has x i) (sym (within_same m more (λ j k. or_has_left m (2 ^ i) j k) (omega arith))) (or_has_right m (2 ^ i) i (pow_has i))))
      | inr ne ↦ omega arith
    ]

tally_step : (m n : ℕ) → tally m (suc n) ≡ m % 2 + tally (m / 2) n
tally_step m zero = refl
tally_step m (suc n) = let r = tally_step m n in omega arith

pub ones_tally : (n m : ℕ) → m < 2 ^ n → ones m ≡ tally m n
ones_tally zero m h = let e : m ≡ 0 = omega arith in ap ones e ∙ ones-ones 0
ones_tally (suc n) m h = let r = ones_tally n (m / 2) (let e = pow-suc 2 n in omega arith) in let s = ones_step m in let t = tally_step m n in omega arith

-- a number below 2 ^ n has its places below n
pub has_below : (n m i : ℕ) → m < 2 ^ n → Has m i → i < n
has_below zero m i h k = let e : m ≡ 0 = omega arith in absurd (omega (arith, digit_zero i, ap (λ (x : ℕ). digit x i) e))
has_below (suc n) m zero h k = omega arith
has_below (suc n) m (suc i) h k = let e = pow-suc 2 n in let r = has_below n (m / 2) i (omega arith) k in omega arith

pub tally_small : (m n : ℕ) → tally m n ≤ n
tally_small m zero = omega arith
tally_small m (suc n) = let r = tally_small m n in let d = digit_small m n in omega arith

-- a place below n that has no 1
pub tally_lacking : (m n i : ℕ) → i < n → (Has m i → ⊥) → tally m n < n
tally_lacking m zero i h lacks = absurd (omega arith)
tally_lacking m (suc n) i h lacks =
    let d = digit_small m n in
    elim (cases_eq i n) [
      | inl e ↦ let r = tally_small m n in elim (cases_eq (digit m n) 1) [
        | inl one ↦ absurd (lacks (ap (digit m) e ∙ one))
        | inr none ↦ omega arith
      ]
      | inr ne ↦ let r = tally_lacking m n i (omega arith) lacks in omega arith
    ]

-- places from n on add nothing where all 1s are below n
pub tally_past : (m n k : ℕ) → ((i : ℕ) → Has m i → i < n) → tally m (k + n) ≡ tally m n
tally_past m n zero h = ap (tally m) (omega arith)
tally_past m n (suc k) h =
    let e : suc k + n ≡ suc (k + n) = omega arith in
    let d = digit_small m (k + n) in
    let r = tally_past m n k h in
    ap (tally m) e
    ∙ elim (cases_eq (digit m (k + n)) 1) [
      | inl one ↦ let l = h (k + n) one in absurd (omega arith)
      | inr none ↦ omega arith
    ]
