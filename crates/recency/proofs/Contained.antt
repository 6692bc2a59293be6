-- What a slice's `contains` answers on blocks. Assumes nothing.
use Rattle.std.proofs.Common.{◌≡◌, ℕ, Bool, eqb, List, sym, refl}
use Rattle.std.specs.List.{IsAnyAnswer}
use Rattle.std.proofs.lemmas.List.Elements.{contains_decides}
use Rattle.std.proofs.lemmas.Bool.Decides.{same_from_decides, Decides-by_or, Decides-eqb, Decides-like}
use Rattle.recency.specs.Blocks.{has}

-- whether the block is there
pub has_contained : (xs : List ℕ) (b : ℕ) (r : Bool) → IsAnyAnswer (λ y t. eqb y b ≡ t) xs r → r ≡ has b xs
has_contained xs b r h =
    same_from_decides r (has b xs) (contains_decides eqb Decides-eqb xs b r h)
    (Decides-by_or (λ y. eqb b y) (λ y. y ≡ b) (has b) (λ y. Decides-like (eqb b y) sym sym (Decides-eqb b y)) refl (λ _ _. refl) xs)
