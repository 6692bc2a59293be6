-- A task by what each point accesses and leads to, four tables by what they say of each point and block, and what settled
-- tables obey along each edge.
use Rattle.std.specs.Prelude.{◌≡◌, ℕ, zero, suc, ◌+◌, ◌<◌, ◌≤◌, min, Bool, true, false, cond, ◌&&◌, List, [], ◌∷◌, length, Some, None, filter, Option, ◌==◌, nat_eq, nat_le, nat_lt}
use Rattle.recency.specs.Blocks.{has, set_of}

pub record Flow : Type 0 where
  pub sets : ℕ
  pub ways : ℕ
  pub access : ℕ → Option ℕ
  pub successors : ℕ → List ℕ
  pub evicting : List ℕ
  pub blocks : List ℕ

-- at a point and for a block: its age and its conflict set before the point, its reuse distance and its widest next use
-- after the point
pub record Findings : Type 0 where
  pub age : ℕ → ℕ → ℕ
  pub reuse : ℕ → ℕ → ℕ
  pub conflicts : ℕ → ℕ → Option (List ℕ)
  pub widest : ℕ → ℕ → Option ℕ

-- ages after one access, or none
abbrev pub aged : ℕ → ℕ → Option ℕ → (ℕ → ℕ) → ℕ → ℕ
aged sets ways None row x = row x
aged sets ways (Some a) row x =
    cond (x == a) 0 (cond (set_of sets x == set_of sets a && nat_le (row x) (row a)) (min (row x + 1) ways) (row x))

-- a conflict set after the access of another block
abbrev pub joins : Bool → ℕ → Option (List ℕ) → Option (List ℕ)
joins near a None = None
joins true a (Some xs) = Some (a ∷ xs)
joins false a (Some xs) = Some xs

abbrev pub conflicted : ℕ → Option ℕ → (ℕ → Option (List ℕ)) → ℕ → Option (List ℕ)
conflicted sets None row x = row x
conflicted sets (Some a) row x = cond (x == a) (Some []) (joins (set_of sets x == set_of sets a) a (row x))

abbrev pub counted : Option (List ℕ) → Option ℕ
counted None = None
counted (Some xs) = Some (length xs)

-- the widest next use from a point's access on, with the conflict sets at the point
abbrev pub widened : Option ℕ → (ℕ → Option (List ℕ)) → (ℕ → Option ℕ) → ℕ → Option ℕ
widened None conflicts row x = row x
widened (Some a) conflicts row x = cond (x == a) (counted (conflicts x)) (row x)

-- none is lowest, and a set comes before those that include it
abbrev pub Included : Option (List ℕ) → Option (List ℕ) → Type 0
Included None o = Unit {0}
Included (Some xs) None = ⊥
Included (Some xs) (Some ys) = (y : ℕ) → has y xs ≡ true → has y ys ≡ true

abbrev pub AtMost : Option ℕ → Option ℕ → Type 0
AtMost None o = Unit {0}
AtMost (Some n) None = ⊥
AtMost (Some n) (Some m) = n ≤ m

-- how many evicting blocks are of cache set s
abbrev pub evictors : Flow → ℕ → ℕ
evictors F s = length (filter (λ b. nat_eq (set_of F.sets b) s) F.evicting)

abbrev pub enough : ℕ → ℕ → Option ℕ → Bool
enough ways e None = false
enough ways e (Some w) = nat_le ways (w + e)

module _ (F : Flow) (N : Findings) where
  -- reuse distance and widest next use are read from the point's row advanced by its own access
  abbrev pub reuse_at : ℕ → ℕ → ℕ
  reuse_at p x = aged F.sets F.ways (F.access p) (N.reuse p) x

  abbrev pub widest_at : ℕ → ℕ → Option ℕ
  widest_at p x = widened (F.access p) (N.conflicts p) (N.widest p) x

  -- along each edge, for each of the task's blocks
  pub record SettledAlongEdges : Type 0 where
    pub ages : (p q : ℕ) → has q (F.successors p) ≡ true → (x : ℕ) → has x F.blocks ≡ true → N.age q x ≤ aged F.sets F.ways (F.access p) (N.age p) x
    pub reuses : (p q : ℕ) → has q (F.successors p) ≡ true → (x : ℕ) → has x F.blocks ≡ true → N.reuse p x ≤ reuse_at q x
    pub conflicting : (p q : ℕ) → has q (F.successors p) ≡ true → (x : ℕ) → has x F.blocks ≡ true → Included (conflicted F.sets (F.access p) (N.conflicts p) x) (N.conflicts q x)
    pub widening : (p q : ℕ) → has q (F.successors p) ≡ true → (x : ℕ) → has x F.blocks ≡ true → AtMost (widest_at q x) (N.widest p x)

  -- block x of cache set s is counted at point p
  abbrev pub is_counted : ℕ → ℕ → ℕ → Bool
  is_counted p s x =
      (set_of F.sets x == s) && (nat_lt (N.age p x) F.ways && (nat_lt (reuse_at p x) F.ways && enough F.ways (evictors F s) (widest_at p x)))

  abbrev pub counted_in : ℕ → ℕ → ℕ
  counted_in p s = cond (nat_lt 0 (evictors F s)) (min F.ways (length (filter (is_counted p s) F.blocks))) 0

  -- over the cache sets below a number
  abbrev pub counted_below : ℕ → ℕ → ℕ
  counted_below p zero = 0
  counted_below p (suc n) = counted_below p n + counted_in p n

  -- the resilient number of a point
  abbrev pub resilient : ℕ → ℕ
  resilient p = counted_below p F.sets

pub record Fits (F : Flow) : Type 0 where
  pub some_set : 0 < F.sets
  pub some_way : 0 < F.ways
  pub own : (p a : ℕ) → F.access p ≡ Some a → has a F.blocks ≡ true
