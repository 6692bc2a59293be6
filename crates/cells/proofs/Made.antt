-- Arrays made by a call for each index. Assumes nothing.
use Rattle.std.proofs.Common.{◌≡◌, ℕ, zero, suc, ◌+◌, ◌<◌, ◌≤◌, List, length, get_or, take, sym, refl, ap, ◌∙◌, subst, zero-add, arith}
use denote.Param.Members.{Mut, Called}
use Rattle.std.specs.Array.{IsFromFnResult, IsFromFnResultFrom}
use Rattle.std.proofs.lemmas.List.{ext_get_or, get_or-take, length-take-le}
use Rattle.cells.specs.Cells.{both, each}
use Rattle.cells.proofs.Lists.{length_both, getD_both, length_each, getD_each}

-- each call of f changes nothing, and gives what `of` says
module _ {F E : Type 0} (g : Mut F (ℕ × Unit {0}) E) (f : F) (n : ℕ) (of : ℕ → E) (calls : (i : ℕ) (y : E) (q : F) → i < n → Called g f (i, tt) y q → (y ≡ of i) × (q ≡ f)) where
  made_from : (ys : List E) (p : F) (i m k j : ℕ) (d : E) → p ≡ f → i + m ≡ n → i + k ≡ j → IsFromFnResultFrom g p ys i m → k < m → get_or ys j d ≡ of j
  made_from ys p i zero k j d s e t h l = absurd (omega arith)
  made_from ys p i (suc m) zero j d s e t h l =
      let here : i ≡ j = omega arith in
      let said = calls i h.1 h.0 (omega arith) (subst (λ (u : F). Called g u (i, tt) h.1 h.0) s h.3) in
      subst (λ (v : ℕ). get_or ys v d ≡ of v) here (h.2.1 d ∙ said.0)
  made_from ys p i (suc m) (suc k) j d s e t h l =
      let said = calls i h.1 h.0 (omega arith) (subst (λ (u : F). Called g u (i, tt) h.1 h.0) s h.3) in
      made_from ys h.0 (i + 1) m k j d said.1 (omega arith) (omega arith) h.4 (omega arith)

  pub made_at : (ys : List E) (k : ℕ) (d : E) → IsFromFnResult g f ys n → k < n → get_or ys k d ≡ of k
  made_at ys k d h l = made_from ys f 0 n k k d refl (omega arith) (omega arith) h.each l

-- each call puts the cells at its index together
pub made_both : {F E : Type 0} (g : Mut F (ℕ × Unit {0}) E) (f : F) (op : E → E → E) (d : E) (n : ℕ) (xs ys zs : List E) → length xs ≡ n → length ys ≡ n
    → ((i : ℕ) (z : E) (q : F) → i < n → Called g f (i, tt) z q → (z ≡ op (get_or xs i d) (get_or ys i d)) × (q ≡ f))
    → IsFromFnResult g f zs n → zs ≡ both op xs ys
made_both g f op d n xs ys zs e t calls h =
    let m = length_both op xs ys (omega arith) in
    ext_get_or d zs (both op xs ys) (h.long ∙ sym e ∙ sym m)
    (λ i l. made_at g f n (λ (j : ℕ). op (get_or xs j d) (get_or ys j d)) calls zs i d h (omega (arith, h.long)) ∙ sym (getD_both op xs ys i d (omega (arith, h.long)) (omega (arith, h.long))))

-- each call changes the cell at its index
pub made_each : {F E : Type 0} (g : Mut F (ℕ × Unit {0}) E) (f : F) (op : ℕ → E → E) (d : E) (n : ℕ) (xs zs : List E) → length xs ≡ n
    → ((i : ℕ) (z : E) (q : F) → i < n → Called g f (i, tt) z q → (z ≡ op i (get_or xs i d)) × (q ≡ f))
    → IsFromFnResult g f zs n → zs ≡ each op 0 xs
made_each g f op d n xs zs e calls h =
    let m = length_each op 0 xs in
    ext_get_or d zs (each op 0 xs) (h.long ∙ sym e ∙ sym m)
    (λ i l. made_at g f n (λ (j : ℕ). op j (get_or xs j d)) calls zs i d h (omega (arith, h.long)) ∙ sym (getD_each op 0 xs i d (omega (arith, h.long)) ∙ ap (λ (k : ℕ). op k (get_or xs i d)) (zero-add i)))

-- the first of what the calls give, where a list says of each what it is
pub made_first : {F E : Type 0} (g : Mut F (ℕ × Unit {0}) E) (f : F) (of : ℕ → E) (d : E) (n : ℕ) (xs zs : List E) → length xs ≤ n
    → ((i : ℕ) (z : E) (q : F) → i < n → Called g f (i, tt) z q → (z ≡ of i) × (q ≡ f))
    → ((i : ℕ) → i < length xs → of i ≡ get_or xs i d)
    → IsFromFnResult g f zs n → take (length xs) zs ≡ xs
made_first g f of d n xs zs few calls same h =
    let k = length-take-le (length xs) zs (omega (arith, few, h.long)) in
    ext_get_or d (take (length xs) zs) xs k
    (λ i l. let m : i < length xs = omega (arith, k, l) in get_or-take (length xs) zs i d m ∙ made_at g f n of calls zs i d h (omega arith) ∙ same i m)
