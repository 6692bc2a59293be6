use Rattle.std.proofs.Common.{refl, arith}
use Rattle.blocksets.proofs.Digits.{digit_zero}
use Rattle.blocksets.proofs.BlockSet.empty.Goals as goal

pub returns : goal.returns
returns c = record { is = refl; members = λ i h. omega (arith, digit_zero i, h) }
