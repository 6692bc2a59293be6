use Rattle.std.proofs.Common.{ℕ, ◌≤◌, sym, subst, arith}
use Rattle.blocksets.specs.Members.{size}
use Rattle.blocksets.proofs.Digits.{ones_tally}
use Rattle.blocksets.proofs.Sizes.{size_small}
use Rattle.blocksets.proofs.BlockSet.count.Goals as goal

pub returns : goal.returns
unfolding size
returns c =
    let e = ones_tally 64 c.args.self.mask (omega arith) in
    record { is = e; few = subst (λ (n : ℕ). n ≤ 64) (sym e) (size_small c.args.self) }
