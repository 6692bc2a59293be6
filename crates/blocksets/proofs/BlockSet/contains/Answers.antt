use Rattle.std.proofs.Common.{◌≡◌, ◌/◌, ◌^◌, sym, ◌∙◌, arith}
use lib.Bits.{bit_and, and_mask}
use Rattle.std.proofs.lemmas.Bool.{eqb-true, eq-eqb, ltb-true}
use Rattle.blocksets.specs.Digits.{digit}
use Rattle.blocksets.proofs.Digits.{digit_shr, has_below}
use Rattle.blocksets.proofs.BlockSet.contains.Goals as goal

pub returns-then-block-lt64 : goal.returns-then-block-lt64
returns-then-block-lt64 c =
    let m = c.args.self.mask in
    let b = c.args.block in
    let e : bit_and (m / 2 ^ b) 1 ≡ digit m b = and_mask (m / 2 ^ b) 1 ∙ sym (digit_shr m b) in
    (λ t. sym e ∙ eqb-true _ _ t, λ h. eq-eqb _ _ (e ∙ h))

pub returns-else-block-lt64 : goal.returns-else-block-lt64
returns-else-block-lt64 c = (
  λ t. absurd (omega (arith, ltb-true c.args.block 64 t)),
  λ h. absurd (omega (arith, has_below 64 c.args.self.mask c.args.block (omega arith) h)),
)
