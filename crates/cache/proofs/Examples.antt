-- What FIFO misses on two runs of accesses, from the definitions by computation. Assumes nothing.
use Rattle.std.proofs.Common.{◌≡◌, ℕ, ◌+◌, cond, List, [], ◌∷◌, refl}
use Rattle.recency.specs.Blocks.{has}
use Rattle.cache.specs.FifoSteps.{fifo_step}

abbrev fifo_misses : ℕ → List ℕ → List ℕ → ℕ
fifo_misses w [] l = 0
fifo_misses w (b ∷ bs) l = cond (has b l) 0 1 + fifo_misses w bs (fifo_step w b l)

-- one access more, of 9, costs four more misses
pub one_more_access :
    (fifo_misses 2 (1 ∷ (2 ∷ (1 ∷ (5 ∷ (2 ∷ (3 ∷ (5 ∷ []))))))) [] ≡ 4) ×
    (fifo_misses 2 (1 ∷ (2 ∷ (9 ∷ (1 ∷ (5 ∷ (2 ∷ (3 ∷ (5 ∷ [])))))))) [] ≡ 8)
one_more_access = (refl, refl)
