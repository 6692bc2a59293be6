-- One set of a tree PLRU cache, and an access.
use Rattle.std.specs.Prelude.{ℕ, suc, cond, List, [], ◌∷◌, ◌++◌, length, ◌==◌, nat_lt, slice_set}
use Rattle.recency.specs.Blocks.{has}
use Rattle.plru.specs.Tree.{touched, victim}

-- the blocks of the filled ways, which are the first ones, and the bits of the tree
pub record SetState : Type 0 where
  pub blocks : List ℕ
  pub bits : ℕ

abbrev pub empty_set : SetState
empty_set = record { blocks = []; bits = 0 }

-- where a block first stands, or the length where it is not there
abbrev pub index_of : ℕ → List ℕ → ℕ
index_of b [] = 0
index_of b (x ∷ xs) = cond (b == x) 0 (suc (index_of b xs))

-- the way that a block goes into which is not held: the lowest empty one, else the one that the bits lead to
abbrev pub way_to_fill : ℕ → SetState → ℕ
way_to_fill ways s = cond (nat_lt (length s.blocks) ways) (length s.blocks) (victim ways s.bits)

-- the filled ways once the block b is in that way
abbrev pub blocks_filled : ℕ → ℕ → SetState → List ℕ
blocks_filled ways b s = cond (nat_lt (length s.blocks) ways) (s.blocks ++ (b ∷ [])) (slice_set s.blocks (victim ways s.bits) b)

-- an access of b: a hit changes the bits alone
abbrev pub plru_step : ℕ → ℕ → SetState → SetState
plru_step ways b s = record {
  blocks = cond (has b s.blocks) s.blocks (blocks_filled ways b s);
  bits = touched ways (cond (has b s.blocks) (index_of b s.blocks) (way_to_fill ways s)) s.bits;
}

-- accesses, one after the other
abbrev pub plru_run : ℕ → List ℕ → SetState → SetState
plru_run ways [] s = s
plru_run ways (b ∷ bs) s = plru_run ways bs (plru_step ways b s)
