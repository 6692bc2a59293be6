-- What the arrays of a cache stand for.
use Rattle.std.specs.Prelude.{ℕ, ◌≤◌, List, length, map, take}
use Rattle.cache.specs.declared.block_list.BlockList.{BlockList}

-- the blocks of one set, newest first
abbrev pub blocks_of : BlockList → List ℕ
blocks_of l = l.blocks.items

-- a list of a cache of so many ways
pub record FitsWays (l : BlockList) (ways : ℕ) : Type 0 where
  pub some : 1 ≤ ways
  pub few : ways ≤ 8
  pub fits : length (blocks_of l) ≤ ways

-- the list of each set
abbrev pub row_of : ℕ → List BlockList → List (List ℕ)
row_of sets lists = take sets (map blocks_of lists)
