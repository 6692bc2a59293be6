-- What a replay of a list of calls on a new bench gives, on any cache.
use Rattle.std.specs.Prelude.{◌≡◌, ℕ, ◌+◌, ◌≤◌, List, [], ◌∷◌, ◌++◌, Some, None, Option}
use Rattle.std.specs.List.{AllByRecursion}
use Rattle.recency.specs.Rows.{row_run}
use Rattle.cache.specs.declared.Cache.{Ghosts}
use Rattle.ledger.specs.Ledger.{Setting, Ledger, accessed, after, new_ledger}
use Rattle.ledger.specs.Histories.{LoadsWithin}
use Rattle.ledger.specs.declared.Call.{Call}
use Rattle.ledger.specs.declared.Counts.{Counts}
use Rattle.bench.specs.Benches.{Called, said_hit}
use Rattle.replaying.specs.declared.Played.{Played}

-- loads are at most plain loads plus charge
abbrev pub CountsWithin : Counts → Type 0
CountsWithin n = n.loads ≤ n.plain + n.charge

abbrev pub blocks_in : Option ℕ → List ℕ
blocks_in None = []
blocks_in (Some b) = b ∷ []

-- the blocks that the obeyed calls access, in their order, from a ledger on
abbrev pub accesses_of : Setting → Ledger → List Call → List Played → List ℕ
accesses_of S L [] played = []
accesses_of S L (call ∷ calls) [] = []
accesses_of S L (call ∷ calls) (x ∷ played) =
    blocks_in (accessed S L call) ++ accesses_of S (after S L call (said_hit x.answer)) calls played

module _ {C : Type 0} (g : Ghosts C) where
  -- each call in turn, from one cache and ledger to the next: the refusals and counts are the ledger's, and each hit or miss
  -- is the cache's own
  abbrev pub Plays : Setting → List Call → C → Ledger → List Played → C → Ledger → Type 0
  Plays S [] c L [] d M = (d ≡ c) × (M ≡ L)
  Plays S [] c L (x ∷ played) d M = ⊥
  Plays S (call ∷ calls) c L [] d M = ⊥
  Plays S (call ∷ calls) c L (x ∷ played) d M =
      (next : C) × (K : Ledger) × Called g S call c L x.answer next K × (x.counts ≡ K.counts) × Plays S calls next K played d M

  -- The theorem on a whole run. `follows`: the refusals and the counts are the ledger's, and each hit or miss the cache's own.
  -- `rows`: each row that the cache vouched for at first it vouches for at last, moved by the accesses of the obeyed calls
  -- in their order and by no others. `bounded`: at the end, and `always`: after each call, loads are at most plain loads
  -- plus charge.
  pub record Replayed (S : Setting) (calls : List Call) (c : C) (played : List Played) (d : C) (M : Ledger) : Type 0 where
    pub follows : Plays S calls c (new_ledger S) played d M
    pub rows : (row : List (List ℕ)) → g.vouches c row → g.vouches d (row_run (g.sets c) (g.life c) (accesses_of S (new_ledger S) calls played) row)
    pub bounded : LoadsWithin M
    pub always : AllByRecursion (λ (x : Played). CountsWithin x.counts) played
