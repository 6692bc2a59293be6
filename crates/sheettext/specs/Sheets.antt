-- The text for an analysed task.
use Rattle.std.specs.Prelude.{ℕ, suc, ◌*◌, List, [], ◌∷◌, ◌++◌, codes, decimal}
use Rattle.std.specs.List.{concat}
use Rattle.numbers.specs.declared.PointNumbers.{PointNumbers}

-- the line of the point with index k
abbrev pub point_text : ℕ → PointNumbers → List ℕ
point_text k n =
    concat (
    decimal k
    ∷ codes " " ∷ decimal n.useful
    ∷ codes " " ∷ decimal n.evicting
    ∷ codes " " ∷ decimal n.combined
    ∷ codes " " ∷ decimal n.resilient
    ∷ codes "\n" ∷ [])

-- the lines of the points from index k on
abbrev pub sheet_text : ℕ → List PointNumbers → List ℕ
sheet_text k [] = []
sheet_text k (n ∷ ns) = point_text k n ++ sheet_text (suc k) ns

abbrev pub header : List ℕ
header = codes "point useful evicting combined resilient\n"

-- the largest resilient number of all points, and its cost
abbrev pub last_text : ℕ → ℕ → List ℕ
last_text largest cost =
    concat (codes "largest " ∷ decimal largest ∷ codes " cost " ∷ decimal cost ∷ codes "\n" ∷ [])

-- a header, the lines of all points, and the largest resilient number with its cost: the time to load that many blocks
abbrev pub analysis_text : List PointNumbers → ℕ → ℕ → List ℕ
analysis_text sheet largest reload = header ++ (sheet_text 0 sheet ++ last_text largest (largest * reload))
