-- One pass over a list: each block moves one place back, until b is met. Assumes nothing.
use Rattle.std.proofs.Common.{◌≡◌, ℕ, suc, ◌+◌, ◌<◌, ◌≤◌, true, false, cond, eqb, List, [], ◌∷◌, ◌++◌, length, get_or, take, drop, set, sym, refl, ap, ◌∙◌, append_assoc, add-one, arith}
use Rattle.std.proofs.lemmas.List.{take_more_set, drop_more, drop-set-lt, set_split, take_all, take_at, drop_all, length_push}
use Rattle.std.proofs.lemmas.Bool.{eq-eqb, ne_eqb}
use Rattle.std.proofs.lemmas.Bool.Decides.{nat_tests}
use Rattle.std.specs.List.{refill}
use Rattle.recency.specs.Blocks.{has}
use Rattle.recency.specs.Recency.{without, lru_step}

-- what the pass makes of a list, with the carried block in front
abbrev pub shift : ℕ → ℕ → List ℕ → List ℕ
shift b carry [] = carry ∷ []
shift b carry (x ∷ xs) = carry ∷ cond (eqb b x) xs (shift b x xs)

pub shift_in : (b carry : ℕ) (l : List ℕ) → has b l ≡ true → shift b carry l ≡ carry ∷ without b l
shift_in b carry [] h = absurd (let z : ◌≡◌ {A = ℕ} 0 1 = cc in omega arith)
shift_in b carry (x ∷ xs) h = let i = shift_in b x xs in grind (arith, nat_tests)

pub shift_out : (b carry : ℕ) (l : List ℕ) → has b l ≡ false → shift b carry l ≡ carry ∷ l
shift_out b carry [] h = refl
shift_out b carry (x ∷ xs) h = let i = shift_out b x xs in grind (arith, nat_tests)

-- the list after i places, with what is still to come
abbrev pub pending : ℕ → ℕ → ℕ → List ℕ → List ℕ
pending b carry i xs = take i xs ++ shift b carry (drop i xs)

module _ (b carry i : ℕ) (xs : List ℕ) where
  module _ (lt : i < length xs) where
    here : drop i xs ≡ get_or xs i 0 ∷ drop (i + 1) xs
    here = drop_more xs i 0 lt

    -- another block stands at place i
    pub pass_next : (get_or xs i 0 ≡ b → ⊥) →
        (pending b (get_or xs i 0) (i + 1) (set xs i carry) ≡ pending b carry i xs) × (has b (drop (i + 1) (set xs i carry)) ≡ has b (drop i xs))
    pass_next ne =
        let front : take (i + 1) (set xs i carry) ≡ take i xs ++ carry ∷ [] = take_more_set xs i carry lt in
        let rest : drop (i + 1) (set xs i carry) ≡ drop (i + 1) xs = drop-set-lt (i + 1) xs i carry (omega arith) in
        let off : eqb b (get_or xs i 0) ≡ false = ne_eqb _ _ (λ e. ne (sym e)) in
        (rw (front, rest, here, off, append_assoc), rw (rest, here, off))

    -- b stands at place i
    pub pass_found : get_or xs i 0 ≡ b → (set xs i carry ≡ pending b carry i xs) × (has b (drop i xs) ≡ true)
    pass_found is =
        let on : eqb b (get_or xs i 0) ≡ true = eq-eqb _ _ (sym is) in
        (set_split xs i carry lt ∙ rw (here, on, add-one), rw (here, on))

  -- the pass is over, and b was not met
  pub pass_over : length xs ≤ i → (pending b carry i xs ≡ xs ++ carry ∷ []) × (has b (drop i xs) ≡ false)
  pass_over le =
      let all : take i xs ≡ xs = take_all i xs le in
      let none : drop i xs ≡ [] = drop_all i xs le in
      (rw (all, none), rw none)

-- what is written over a whole list is the list
pub written_back : (l m : List ℕ) → length m ≡ length l → refill (length l) l m ≡ m
written_back l m e = take_at m (drop (length m) l) (length l) e

-- b was met, and came to the front
pub moved_up : (w b : ℕ) (l : List ℕ) → has b l ≡ true → b ∷ without b l ≡ lru_step w b l
moved_up w b l h = rw h refl

module _ (w b last : ℕ) (l m : List ℕ) (h : has b l ≡ false) (e : m ++ last ∷ [] ≡ b ∷ l) (fits : length l ≤ w) where
  whole : length m ≡ length l
  whole = let n : length (m ++ last ∷ []) ≡ suc (length l) = ap length e in let k = length_push m last in omega arith

  stays : take w (b ∷ l) ≡ lru_step w b l
  stays = rw h refl

  -- another block came in, and there is room for all
  pub brought_in : length m < w → m ++ last ∷ [] ≡ lru_step w b l
  brought_in lt = let n = whole in e ∙ sym (take_all w (b ∷ l) (omega arith)) ∙ stays

  -- it came in, and the last one goes
  pub pushed_out : w ≤ length m → m ≡ lru_step w b l
  pushed_out le = let n = whole in sym (take_at m (last ∷ []) w (omega arith)) ∙ ap (take w) e ∙ stays
