-- The lists of blocks that a set vouches for.
use Rattle.std.specs.Prelude.{◌≡◌, ℕ, suc, ◌+◌, ◌/◌, ◌%◌, ◌^◌, ◌<◌, true, List, ◌≢◌}
use Rattle.recency.specs.Blocks.{has}
use Rattle.recency.specs.Recency.{front}
use Rattle.plru.specs.Tree.{levels, bit_at}
use Rattle.plru.specs.Sets.{SetState, index_of}

-- the place of the way that holds x
abbrev pub place_of : ℕ → ℕ → SetState → ℕ
place_of ways x s = ways + index_of x s.blocks

-- p / 2 ^ k is the place k levels above p. The bit one level further up names the half that p lies in
abbrev pub Threatens : ℕ → ℕ → ℕ → Type 0
Threatens bits p k = bit_at bits (p / 2 ^ suc k) ≡ p / 2 ^ k % 2

-- p and q lie in the two halves of one place: they meet there, and not one level below
abbrev pub Parted : ℕ → ℕ → ℕ → Type 0
Parted p q k = (p / 2 ^ suc k ≡ q / 2 ^ suc k) × (p / 2 ^ k ≢ q / 2 ^ k)

-- each bit that names the half of x has a witness: a block in front of x in the list that lies in the other half
abbrev pub Witnessed : ℕ → SetState → List ℕ → ℕ → Type 0
Witnessed ways s l x =
    (k : ℕ) → k < levels ways → Threatens s.bits (place_of ways x s) k →
    (y : ℕ) × (has y (front x l) ≡ true) × Parted (place_of ways x s) (place_of ways y s) k

-- each listed block is held, and its threats have witnesses
abbrev pub Guards : ℕ → SetState → List ℕ → Type 0
Guards ways s l = (x : ℕ) → has x l ≡ true → (has x s.blocks ≡ true) × Witnessed ways s l x
