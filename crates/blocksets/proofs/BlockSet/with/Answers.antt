use Rattle.std.proofs.Common.{◌≡◌, ℕ, ◌*◌, ◌%◌, ◌^◌, ◌<◌, ltb, ◌⊎◌, sym, ap, ◌∙◌, subst, inl, inr, ⊎_elim}
use lib.Bits.{bit_or}
use Rattle.std.proofs.lemmas.Nat.{one_shl}
use Rattle.std.proofs.lemmas.Bool.{cond-true, lt-ltb}
use Rattle.blocksets.specs.Digits.{Has}
use Rattle.blocksets.specs.Members.{Iff}
use Rattle.blocksets.specs.declared.BlockSet.{BlockSet}
use Rattle.blocksets.proofs.Digits.{has_or, has_pow, pow_has, or_has_left, or_has_right}
use Rattle.blocksets.proofs.BlockSet.with.Goals as goal

added : (m b i : ℕ) → b < 64 → Iff (Has (bit_or m (2 ^ b)) i) (Has m i ⊎ ((i ≡ b) × (b < 64)))
added m b i l = (
  λ h. ⊎_elim inl (λ k. inr (has_pow b i k, l)) (has_or m (2 ^ b) i h),
  ⊎_elim (or_has_left m (2 ^ b) i) (λ k. or_has_right m (2 ^ b) i (subst (Has (2 ^ b)) (sym k.0) (pow_has b))),
)

pub returns-then-block-lt64 : goal.returns-then-block-lt64
returns-then-block-lt64 c =
    let m = c.args.self.mask in
    let b = c.args.block in
    let l = c.if-block-lt64.true in
    let e : bit_or m ((1 * 2 ^ b) % 2 ^ 64) ≡ bit_or m (2 ^ b) = ap (bit_or m) (one_shl b 64 l) in
    let of : ℕ → BlockSet = λ x. record { mask = x } in
    record {
      is = ap of (e ∙ sym (cond-true (ltb b 64) _ _ (lt-ltb b 64 l)));
      members = λ i. let P : ℕ → Type 0 = λ x. Iff (Has x i) (Has m i ⊎ ((i ≡ b) × (b < 64))) in subst P (sym e) (added m b i l);
    }
