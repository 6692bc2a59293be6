-- One set of 4 ways: accesses of 1 to 6, from the definitions by computation. Assumes nothing.
use Rattle.std.proofs.Common.{◌≡◌, [], ◌∷◌, refl}
use Rattle.plru.specs.Sets.{empty_set, plru_run}

one_to_six : (plru_run 4 (1 ∷ 2 ∷ 3 ∷ 4 ∷ 5 ∷ 6 ∷ []) empty_set).blocks ≡ 5 ∷ 2 ∷ 6 ∷ 4 ∷ []
one_to_six = refl
