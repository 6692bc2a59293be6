use Rattle.std.proofs.Common.{refl, ⊎_elim}
use Rattle.blocksets.proofs.Digits.{has_or, or_has_left, or_has_right}
use Rattle.blocksets.proofs.BlockSet.union.Goals as goal

pub returns : goal.returns
returns c =
    let a = c.args.self.mask in
    let b = c.args.other.mask in
    record { is = refl; members = λ i. (has_or a b i, ⊎_elim (or_has_left a b i) (or_has_right a b i)) }
