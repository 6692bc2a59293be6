-- Lists of cells put together and changed, index for index, and lists that a loop writes. Assumes nothing.
use Rattle.std.proofs.Common.{◌≡◌, ℕ, zero, suc, ◌+◌, ◌<◌, ◌≤◌, List, [], ◌∷◌, ◌++◌, length, get_or, take, set, sym, refl, ap, ◌∙◌, arith}
use Rattle.std.proofs.lemmas.List.{take_more_set, take_more, take_all}
use Rattle.cells.specs.Cells.{both, each}

pub length_both : {E : Type 0} (f : E → E → E) (xs ys : List E) → length xs ≡ length ys → length (both f xs ys) ≡ length xs
length_both f [] ys e = refl
length_both f (x ∷ xs) [] e = absurd (omega arith)
length_both f (x ∷ xs) (y ∷ ys) e = ap suc (length_both f xs ys (omega arith))

pub length_each : {E : Type 0} (f : ℕ → E → E) (i : ℕ) (xs : List E) → length (each f i xs) ≡ length xs
length_each f i [] = refl
length_each f i (x ∷ xs) = ap suc (length_each f (suc i) xs)

pub getD_both : {E : Type 0} (f : E → E → E) (xs ys : List E) (i : ℕ) (d : E) → i < length xs → i < length ys → get_or (both f xs ys) i d ≡ f (get_or xs i d) (get_or ys i d)
getD_both f [] ys i d h k = absurd (omega arith)
getD_both f (x ∷ xs) [] i d h k = absurd (omega arith)
getD_both f (x ∷ xs) (y ∷ ys) zero d h k = refl
getD_both f (x ∷ xs) (y ∷ ys) (suc i) d h k = getD_both f xs ys i d (omega arith) (omega arith)

pub getD_each : {E : Type 0} (f : ℕ → E → E) (i : ℕ) (xs : List E) (k : ℕ) (d : E) → k < length xs → get_or (each f i xs) k d ≡ f (i + k) (get_or xs k d)
getD_each f i [] k d h = absurd (omega arith)
getD_each f i (x ∷ xs) zero d h = ap (λ (n : ℕ). f n x) (omega arith)
getD_each f i (x ∷ xs) (suc k) d h = getD_each f (suc i) xs k d (omega arith) ∙ ap (λ (n : ℕ). f n (get_or xs k d)) (omega arith)

-- a loop that writes out[i] at each turn: one more cell is as it should be
pub built_more : {E : Type 0} (out all : List E) (i : ℕ) (v d : E) → i < length out → i < length all → take i out ≡ take i all → v ≡ get_or all i d → take (i + 1) (set out i v) ≡ take (i + 1) all
built_more out all i v d h k e w =
    take_more_set out i v h ∙ ap (λ zs. zs ++ (v ∷ [])) e ∙ ap (λ z. take i all ++ (z ∷ [])) w ∙ sym (take_more all i d k)

pub built_all : {E : Type 0} (out all : List E) (i : ℕ) → length out ≤ i → length all ≤ i → take i out ≡ take i all → out ≡ all
built_all out all i h k e = sym (take_all i out h) ∙ e ∙ take_all i all k
