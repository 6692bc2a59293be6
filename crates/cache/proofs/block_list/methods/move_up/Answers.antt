use Rattle.std.proofs.Common.{◌≡◌, true, false, ap, sym, set, ◌∙◌, arith}
use Rattle.recency.specs.Blocks.{has}
use Rattle.cache.proofs.Shift.{pass_next, pass_found, pass_over, shift_in, shift_out}
use Rattle.cache.proofs.block_list.methods.move_up.Goals as goal

pub returns-then-next-block : goal.returns-then-next-block
returns-then-next-block c =
    let at = c.loop-place in
    let b = c.args.block in
    let f = pass_found b at.carry at.place-index at.place-items (omega arith) (sym c.replace-next.ensures.value ∙ c.if-next-block.true) in
    let met : has b c.args.blocks.now ≡ true = sym at.invariant.to_come ∙ f.1 in
    (met, ap (set at.place-items at.place-index) c.replace-next.ensures.after ∙ f.0 ∙ at.invariant.moved ∙ shift_in b b _ met)

pub loop-place-preserved : goal.loop-place-preserved
loop-place-preserved c =
    let at = c.loop-place in
    let f = pass_next c.args.block at.carry at.place-index at.place-items (omega arith) (λ e. c.if-next-block.false (c.replace-next.ensures.value ∙ e)) in
    rw (c.replace-next.ensures.value, c.replace-next.ensures.after) (record { moved = f.0 ∙ at.invariant.moved; to_come = f.1 ∙ at.invariant.to_come })

pub returns : goal.returns
returns c =
    let at = c.loop-place in
    let b = c.args.block in
    let f = pass_over b at.carry at.place-index at.place-items (omega arith) in
    let not_met : has b c.args.blocks.now ≡ false = sym at.invariant.to_come ∙ f.1 in
    (not_met, sym f.0 ∙ at.invariant.moved ∙ shift_out b b _ not_met)
