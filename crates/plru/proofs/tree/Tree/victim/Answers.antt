use Rattle.std.proofs.Common.{◌≡◌, ◌+◌, ◌*◌, ◌/◌, ◌^◌, ◌<◌, ap, ◌∙◌, arith, rules}
use lib.Bits.{bit_and}
use Rattle.std.proofs.lemmas.Nat.{and_le_r}
use Rattle.plru.specs.Tree.{led_to}
use Rattle.plru.specs.Bits.{led_small, led_on, levels_few}
use Rattle.plru.proofs.tree.Tree.victim.Goals as goal

within : (c : goal.In-loop-level) → c.loop-level.place < 8
within c =
    let e : c.loop-level.place ≡ led_to c.args.bits c.loop-level._level = c.loop-level.invariant in
    let f = levels_few c.args.self.ways in
    let t = c.loop-level-test.true in
    let s = led_small c.args.bits c.loop-level._level (let r = c.levels-level-end.ensures in omega arith) in
    omega arith

pub overflow_mul-place : goal.overflow_mul-place
overflow_mul-place c = let w = within c in search rules

pub overflow_shr-place : goal.overflow_shr-place
overflow_shr-place c = within c

pub overflow_add-place : goal.overflow_add-place
overflow_add-place c = let w = within c in let l = and_le_r (c.args.bits / 2 ^ c.loop-level.place) 1 in search rules

pub loop-level-preserved : goal.loop-level-preserved
loop-level-preserved c =
    let e : c.loop-level.place ≡ led_to c.args.bits c.loop-level._level = c.loop-level.invariant in
    ap (λ p. 2 * p + bit_and (c.args.bits / 2 ^ p) 1) e ∙ led_on c.args.bits c.loop-level._level
