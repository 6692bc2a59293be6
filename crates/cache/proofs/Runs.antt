-- One access more of a run. Assumes nothing.
use Rattle.std.proofs.Common.{◌≡◌, ℕ, ◌+◌, ◌<◌, Bool, true, false, cond, List, [], ◌∷◌, ◌++◌, length, get_or, take, refl, ap, arith}
use Rattle.std.proofs.lemmas.List.{take_more}
use Rattle.cache.specs.Outcomes.{outcome_of}
use Rattle.cache.specs.Misses.{Misses}
use Rattle.cache.specs.declared.outcome.Outcome.TheVariants.{Hit, Miss}

module _ {S : Type 0} (holds : S → ℕ → Bool) where
  misses_push : (bs : List ℕ) (b n : ℕ) (s t u : S) → Misses holds s bs n t → holds u b ≡ true → Misses holds s (bs ++ b ∷ []) (n + cond (holds t b) 0 1) u
  misses_push [] b n s t u r h = (u, 0, h, (let z = r.0 in let e : cond (holds s b) 0 1 ≡ cond (holds t b) 0 1 = ap {B = ℕ} (λ v. cond (holds v b) 0 1) r.1 in omega arith), (refl, refl))
  misses_push (c ∷ bs) b n s t u r h = (r.0, r.1 + cond (holds t b) 0 1, r.2, (let e = r.3 in omega arith), misses_push bs b r.1 r.0 t u r.4 h)

  -- the first i + 1 accesses are the first i and one more
  pub misses_more : (bs : List ℕ) (i n m : ℕ) (s t u : S) → i < length bs → Misses holds s (take i bs) n t → holds u (get_or bs i 0) ≡ true →
      m ≡ n + cond (holds t (get_or bs i 0)) 0 1 → Misses holds s (take (i + 1) bs) m u
  misses_more bs i n m s t u lt r h e = rw (take_more bs i 0 lt, e) (misses_push (take i bs) (get_or bs i 0) n s t u r h)

-- an access that hit met a block that was held, and one that missed did not
pub hit_held : (t : Bool) → outcome_of t ≡ Hit → t ≡ true
hit_held true e = refl
hit_held false e = absurd (let z : ◌≡◌ {A = ℕ} 0 1 = cc in omega arith)

pub missed_held : (t : Bool) → outcome_of t ≡ Miss → t ≡ false
missed_held true e = absurd (let z : ◌≡◌ {A = ℕ} 0 1 = cc in omega arith)
missed_held false e = refl
