-- `==` on arrays of cells that may be none, where `==` on what a cell has tells whether it is equal. Assumes nothing.
use Rattle.std.proofs.Common.{◌≡◌, Bool, Some, None, Option, List, Decides, refl, ap}
use Rattle.std.specs.Option.{option_eq}
use Rattle.std.proofs.lemmas.Slice.Eq.{slice_eq-Decides}
use lib.Pointwise.{pointwise}

module _ {K : Type 0} (E : K → K → Bool) (each : (x y : K) → Decides (E x y) (x ≡ y)) where
  cells_match : (x y : Option K) → Decides (option_eq E x y) (x ≡ y)
  cells_match None None = (λ _. refl, λ _. refl)
  cells_match None (Some t) = (λ e. absurd (cc), λ e. absurd (cc))
  cells_match (Some s) None = (λ e. absurd (cc), λ e. absurd (cc))
  cells_match (Some s) (Some t) = (λ e. ap Some ((each s t).0 e), λ e. (each s t).1 (cc))

  pub matches_by : (xs ys : List (Option K)) (r : Bool) → r ≡ pointwise (option_eq E) xs ys → Decides r (xs ≡ ys)
  matches_by xs ys r h = slice_eq-Decides cells_match xs ys r h
