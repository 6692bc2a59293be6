use Rattle.std.proofs.Common.{◌≡◌, List, [], ◌∷◌, ◌++◌, length, sym, ap, ◌∙◌, arith}
use Rattle.cache.specs.BlockLists.{blocks_of}
use Rattle.cache.specs.Outcomes.{outcome_of}
use Rattle.cache.proofs.Shift.{written_back, moved_up, brought_in, pushed_out}
use Rattle.cache.proofs.block_list.BlockList.touch.Goals as goal

pub returns-in-None : goal.returns-in-None
returns-in-None c =
    let whole = written_back (blocks_of c.args.self.now) c.move_up.new.blocks (c.move_up.auto.blocks ∙ ap length c.as_mut_slice.ensures.value) in
    let e = rw c.as_mut_slice.ensures.value at c.in-None.ensures in
    record {
      hit = sym (ap outcome_of e.0);
      moved = whole ∙ e.1 ∙ moved_up c.args.ways c.args.block (blocks_of c.args.self.now) e.0;
    }

pub returns-then-len-ways : goal.returns-then-len-ways
returns-then-len-ways c =
    let whole = written_back (blocks_of c.args.self.now) c.move_up.new.blocks (c.move_up.auto.blocks ∙ ap length c.as_mut_slice.ensures.value) in
    let e = rw c.as_mut_slice.ensures.value at c.in-Some.ensures in
    let size : length c.move_up.new.blocks ≡ c.len.result = sym (c.len.ensures.value ∙ ap length whole) in
    let room = c.if-len-ways.true in
    record {
      hit = sym (ap outcome_of e.0);
      moved = c.push.ensures.items ∙ ap {B = List _} (λ l. l ++ c.in-Some.last ∷ []) whole
          ∙ brought_in c.args.ways c.args.block c.in-Some.last (blocks_of c.args.self.now) c.move_up.new.blocks e.0 e.1 c.requires.fits (omega arith);
    }

pub returns-else-len-ways : goal.returns-else-len-ways
returns-else-len-ways c =
    let whole = written_back (blocks_of c.args.self.now) c.move_up.new.blocks (c.move_up.auto.blocks ∙ ap length c.as_mut_slice.ensures.value) in
    let e = rw c.as_mut_slice.ensures.value at c.in-Some.ensures in
    let size : length c.move_up.new.blocks ≡ c.len.result = sym (c.len.ensures.value ∙ ap length whole) in
    let full = c.if-len-ways.false in
    record {
      hit = sym (ap outcome_of e.0);
      moved = whole ∙ pushed_out c.args.ways c.args.block c.in-Some.last (blocks_of c.args.self.now) c.move_up.new.blocks e.0 e.1 c.requires.fits (omega arith);
    }
