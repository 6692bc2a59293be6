-- The misses of a run of accesses, on any cache.
use Rattle.std.specs.Prelude.{◌≡◌, ℕ, ◌+◌, Bool, true, cond, List, [], ◌∷◌}

-- some states lead from s to t, one after each access, and hold its block; n accesses came to a state that did not hold theirs
abbrev pub Misses : {S : Type 0} → (S → ℕ → Bool) → S → List ℕ → ℕ → S → Type 0
Misses holds s [] n t = (n ≡ 0) × (s ≡ t)
Misses {S} holds s (b ∷ bs) n t = (next : S) × (m : ℕ) × (holds next b ≡ true) × (n ≡ cond (holds s b) 0 1 + m) × Misses holds next bs m t
