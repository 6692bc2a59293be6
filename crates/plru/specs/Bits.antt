-- What an access does to each bit of the tree, and where the bits lead. Assumes nothing.
use Rattle.std.specs.Prelude.{◌≡◌, ℕ, zero, suc, ◌+◌, ◌-◌, ◌*◌, ◌/◌, ◌%◌, ◌^◌, ◌<◌, ◌≤◌, Bool, true, cond, ◌&&◌, ◌||◌, ◌==◌, ◌≢◌, bit_and, bit_or, nat_eq, refl}
use Rattle.std.proofs.Common.{sym, ap, subst, ◌∙◌, ⊎_elim, arith, mod-lt, pow_mono, add-one}
use Rattle.std.proofs.Math.Nat.{pow-succ'}
use Rattle.std.specs.Int.Bits.{and_zero_r, or_zero_l, or_zero_r}
use Rattle.std.proofs.lemmas.Nat.{and_shr, or_shr, and_mod, or_mod, and_mask, shr-shr}
use Rattle.std.proofs.lemmas.Bool.{and_parts, eqb-true, eq-eqb, ne_eqb, cond-true, cond-false, cond_both, cases_lt, or_cases}
use Rattle.plru.specs.Tree.{is_tree, levels, bit_at, path_mask, path_value, touched, led_to, victim}

-- a test that passes at each number below n
abbrev pub all_below : ℕ → (ℕ → Bool) → Bool
all_below zero f = true
all_below (suc n) f = f n && all_below n f

pub below_all : (n : ℕ) (f : ℕ → Bool) → all_below n f ≡ true → (k : ℕ) → k < n → f k ≡ true
below_all zero f t k h = absurd (omega arith)
below_all (suc n) f t k h =
    let p = and_parts (f n) (all_below n f) t in
    ⊎_elim
    (λ (lt : k < n). below_all n f p.1 k lt)
    (λ (ge : n ≤ k). let e : k ≡ n = omega arith in ap f e ∙ p.0)
    (cases_lt k n)

-- the sizes of trees, one by one
pub by_size : (P : ℕ → Type 0) → P 2 → P 4 → P 8 → (ways : ℕ) → is_tree ways ≡ true → P ways
by_size P two four eight ways h =
    ⊎_elim
    (λ (e : nat_eq ways 2 ≡ true). subst P (sym (eqb-true ways 2 e)) two)
    (λ (rest : (ways == 4 || ways == 8) ≡ true).
    ⊎_elim
    (λ (e : nat_eq ways 4 ≡ true). subst P (sym (eqb-true ways 4 e)) four)
    (λ (e : nat_eq ways 8 ≡ true). subst P (sym (eqb-true ways 8 e)) eight)
    (or_cases (ways == 4) (ways == 8) rest))
    (or_cases (ways == 2) (ways == 4 || ways == 8) h)

pub ways_pow : (ways : ℕ) → is_tree ways ≡ true → ways ≡ 2 ^ levels ways
ways_pow = by_size (λ w. w ≡ 2 ^ levels w) refl refl refl

-- the path bits of a way, seen from a place k levels above another way: kept where that place is not above the way,
-- else naming the half without it
abbrev pub path_test : ℕ → ℕ → ℕ → ℕ → Bool
path_test ways way other k =
    let p = (ways + other) / 2 ^ suc k in
    let q = ways + way in
    cond (p == q / 2 ^ suc k)
    (bit_at (255 - path_mask ways way) p == 0 && bit_at (path_value ways way) p == 1 - q / 2 ^ k % 2)
    (bit_at (255 - path_mask ways way) p == 1 && bit_at (path_value ways way) p == 0)

abbrev paths_test : ℕ → Bool
paths_test ways = all_below ways (λ way. all_below ways (λ other. all_below (levels ways) (λ k. path_test ways way other k)))

paths_right : (ways : ℕ) → is_tree ways ≡ true → paths_test ways ≡ true
paths_right = by_size (λ w. paths_test w ≡ true) refl refl refl

path_right : (ways way other k : ℕ) → is_tree ways ≡ true → way < ways → other < ways → k < levels ways → path_test ways way other k ≡ true
path_right ways way other k h i j l =
    below_all (levels ways) (λ k. path_test ways way other k)
    (below_all ways (λ other. all_below (levels ways) (λ k. path_test ways way other k))
    (below_all ways (λ way. all_below ways (λ other. all_below (levels ways) (λ k. path_test ways way other k))) (paths_right ways h) way i)
    other j)
    k l

-- bits one by one
pub bit_small : (a p : ℕ) → bit_at a p < 2
bit_small a p = mod-lt (a / 2 ^ p) (omega arith)

bit_both : (a c v p : ℕ) → bit_at (bit_or (bit_and a c) v) p ≡ bit_or (bit_and (bit_at a p) (bit_at c p)) (bit_at v p)
bit_both a c v p =
    ap (λ n. n % 2) (or_shr (bit_and a c) v p ∙ ap (λ n. bit_or n (v / 2 ^ p)) (and_shr a c p))
    ∙ or_mod (bit_and (a / 2 ^ p) (c / 2 ^ p)) (v / 2 ^ p) 1
    ∙ ap (λ n. bit_or n (bit_at v p)) (and_mod (a / 2 ^ p) (c / 2 ^ p) 1)

bit_cleared : (a c v p z : ℕ) → bit_at c p ≡ 0 → bit_at v p ≡ z → bit_at (bit_or (bit_and a c) v) p ≡ z
bit_cleared a c v p z e f = bit_both a c v p ∙ ap (λ n. bit_or (bit_and (bit_at a p) n) (bit_at v p)) e ∙ ap (λ n. bit_or n (bit_at v p)) (and_zero_r (bit_at a p)) ∙ or_zero_l (bit_at v p) ∙ f

bit_kept : (a c v p : ℕ) → bit_at c p ≡ 1 → bit_at v p ≡ 0 → bit_at (bit_or (bit_and a c) v) p ≡ bit_at a p
bit_kept a c v p e f =
    let m : bit_and (bit_at a p) 1 ≡ bit_at a p % 2 = and_mask (bit_at a p) 1 in
    let s = bit_small a p in
    let r : bit_at a p % 2 ≡ bit_at a p = omega arith in
    bit_both a c v p ∙ ap (λ n. bit_or (bit_and (bit_at a p) n) (bit_at v p)) e ∙ ap (λ n. bit_or (bit_and (bit_at a p) 1) n) f ∙ or_zero_r (bit_and (bit_at a p) 1) ∙ m ∙ r

module _ (ways : ℕ) (h : is_tree ways ≡ true) (way other k : ℕ) (i : way < ways) (j : other < ways) (l : k < levels ways) (bits : ℕ) where
  -- above the way the bits turn away from it
  pub bit_turned : (ways + other) / 2 ^ suc k ≡ (ways + way) / 2 ^ suc k → bit_at (touched ways way bits) ((ways + other) / 2 ^ suc k) ≡ 1 - (ways + way) / 2 ^ k % 2
  bit_turned e =
      let t = sym (cond-true _ _ _ (eq-eqb _ _ e)) ∙ path_right ways way other k h i j l in
      let p = and_parts _ _ t in
      bit_cleared bits (255 - path_mask ways way) (path_value ways way) ((ways + other) / 2 ^ suc k) _ (eqb-true _ _ p.0) (eqb-true _ _ p.1)

  -- and elsewhere they stay
  pub bit_stays : ((ways + other) / 2 ^ suc k ≢ (ways + way) / 2 ^ suc k) → bit_at (touched ways way bits) ((ways + other) / 2 ^ suc k) ≡ bit_at bits ((ways + other) / 2 ^ suc k)
  bit_stays n =
      let t = sym (cond-false _ _ _ (ne_eqb _ _ n)) ∙ path_right ways way other k h i j l in
      let p = and_parts _ _ t in
      bit_kept bits (255 - path_mask ways way) (path_value ways way) ((ways + other) / 2 ^ suc k) (eqb-true _ _ p.0) (eqb-true _ _ p.1)

-- a place k + 1 levels up, by way of the place just above
pub up_one : (n k : ℕ) → n / 2 ^ suc k ≡ n / 2 / 2 ^ k
up_one n k = let e : suc k ≡ 1 + k = omega arith in ap (λ m. n / 2 ^ m) e ∙ sym (shr-shr n 1 k)

-- and from there on
pub up_last : (n k : ℕ) → n / 2 ^ suc k ≡ n / 2 ^ k / 2
up_last n k = let e : suc k ≡ k + 1 = omega arith in ap (λ m. n / 2 ^ m) e ∙ sym (shr-shr n k 1)

-- where the bits lead
module _ (bits : ℕ) where
  led_half : (m : ℕ) → led_to bits (suc m) / 2 ≡ led_to bits m
  led_half m = let s = bit_small bits (led_to bits m) in omega arith

  led_odd : (m : ℕ) → led_to bits (suc m) % 2 ≡ bit_at bits (led_to bits m)
  led_odd m = let s = bit_small bits (led_to bits m) in omega arith

  led_up : (m k : ℕ) → led_to bits (suc m) / 2 ^ suc k ≡ led_to bits m / 2 ^ k
  led_up m k = up_one (led_to bits (suc m)) k ∙ ap (λ n. n / 2 ^ k) (led_half m)

  pub led_bounds : (m : ℕ) → (2 ^ m ≤ led_to bits m) × (led_to bits m < 2 * 2 ^ m)
  led_bounds zero = (omega arith, omega arith)
  led_bounds (suc m) =
      let i = led_bounds m in
      let e : 2 ^ suc m ≡ 2 * 2 ^ m = pow-succ' 2 m in
      let s = bit_small bits (led_to bits m) in
      (omega arith, omega arith)

  -- within three levels
  pub led_small : (m : ℕ) → m < 3 → led_to bits m < 8
  led_small m h = let p : 2 ^ m ≤ 2 ^ 2 = (let q : m ≤ 2 = omega arith in pow_mono q) in let b = led_bounds m in omega arith

  -- one level further down, as the code counts
  pub led_on : (m : ℕ) → 2 * led_to bits m + bit_and (bits / 2 ^ led_to bits m) 1 ≡ led_to bits (m + 1)
  led_on m = ap (λ n. 2 * led_to bits m + n) (and_mask (bits / 2 ^ led_to bits m) 1) ∙ ap (led_to bits) (sym (add-one m))

  -- the bit over each place on the way down names its half
  pub led_threatens : (m k : ℕ) → k < m → bit_at bits (led_to bits m / 2 ^ suc k) ≡ led_to bits m / 2 ^ k % 2
  led_threatens zero k h = absurd (omega arith)
  led_threatens (suc m) zero h =
      let e : led_to bits (suc m) / 1 ≡ led_to bits (suc m) = omega arith in
      ap (bit_at bits) (led_half m) ∙ sym (led_odd m) ∙ sym (ap (λ n. n % 2) e)
  led_threatens (suc m) (suc k) h = ap (bit_at bits) (led_up m (suc k)) ∙ led_threatens m k (omega arith) ∙ sym (ap (λ n. n % 2) (led_up m k))

-- the victim is a way, and its place is where the bits lead
module _ (ways : ℕ) (h : is_tree ways ≡ true) (bits : ℕ) where
  pub victim_place : ways + victim ways bits ≡ led_to bits (levels ways)
  victim_place = let e = ways_pow ways h in let b = led_bounds bits (levels ways) in omega arith

  pub victim_within : victim ways bits < ways
  victim_within = let e = ways_pow ways h in let b = led_bounds bits (levels ways) in omega arith

pub levels_few : (ways : ℕ) → levels ways ≤ 3
levels_few ways = cond_both (ways == 2) 1 _ (λ m. m ≤ 3) (λ _. omega arith) (λ _. cond_both (ways == 4) 2 3 (λ m. m ≤ 3) (λ _. omega arith) (λ _. omega arith))

pub few_ways : (ways : ℕ) → is_tree ways ≡ true → ways ≤ 8
few_ways = by_size (λ w. w ≤ 8) (omega arith) (omega arith) (omega arith)
