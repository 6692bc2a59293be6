-- The limits that every task keeps.
use Rattle.std.specs.Prelude.{ℕ, Bool, true, not, ◌&&◌, ltb, List, length, Some, None, Option, nat_le, nat_lt}
use Rattle.task.specs.Contents.{PointContents, TaskContents}
use Rattle.task.specs.Blocks.{distinct_blocks}
use Rattle.task.specs.Lists.{every, first_from, rising}

-- blocks have 24 bits
abbrev pub is_block : ℕ → Bool
is_block b = nat_lt b 16777216

abbrev pub legal_access : Option ℕ → Bool
legal_access None = true
legal_access (Some b) = is_block b

abbrev pub legal_point : PointContents → Bool
legal_point p = legal_access p.access && (nat_le (length p.successors) 4 && rising p.successors)

-- 1 to 64 sets, 1 to 8 ways, a reload time of at most 1,000,000
abbrev pub legal_parameters : ℕ → ℕ → ℕ → Bool
legal_parameters sets ways reload = (nat_le 1 sets && nat_le sets 64) && ((nat_le 1 ways && nat_le ways 8) && nat_le reload 1000000)

abbrev pub legal_evicting : List ℕ → Bool
legal_evicting bs = every is_block bs && rising bs

-- at most 128 points, which access at most 64 distinct blocks
abbrev pub few_points : List PointContents → Bool
few_points ps = nat_le (length ps) 128 && nat_le (length (distinct_blocks ps)) 64

abbrev pub few_evicting : List ℕ → Bool
few_evicting bs = nat_le (length bs) 64

-- names only points below n
abbrev pub closed_point : ℕ → PointContents → Bool
closed_point n p = every (λ s. ltb s n) p.successors

-- the lowest point with a successor that is no point of the task
abbrev pub first_open : List PointContents → Option ℕ
first_open ps = first_from 0 (λ p. not (closed_point (length ps) p)) ps

-- the limits of a task while points and evicting blocks are added
abbrev pub legal_draft : TaskContents → Bool
legal_draft t =
    legal_parameters t.sets t.ways t.reload
    && ((every legal_point t.points && few_points t.points)
    && (legal_evicting t.evicting && few_evicting t.evicting))

-- at least one point, and each names only points of the task
abbrev pub complete : List PointContents → Bool
complete ps = nat_le 1 (length ps) && every (closed_point (length ps)) ps

abbrev pub legal : TaskContents → Bool
legal t = legal_draft t && complete t.points
