use Rattle.std.proofs.Common.{◌%◌, ◌<◌, ◌≤◌, length, get_or, ◌∙◌, mod-lt, arith, length-set}
use Rattle.plru.specs.Lines.{fit_at, fit_set, line_fits, load_moves, load_meets}
use Rattle.plru.proofs.plru.Plru.load.Goals as goal

pub access-requires : goal.access-requires
access-requires c =
    let s = c.args.self.now in
    let m : c.args.block % s.sets < s.sets = mod-lt c.args.block s.some in
    fit_at s.tree.ways s.lines (c.args.block % s.sets) _ (omega arith) s.fits

pub invariant_of-self : goal.invariant_of-self
invariant_of-self c =
    let s = c.args.self.now in
    let b = c.args.block in
    let m : b % s.sets < s.sets = mod-lt b s.some in
    let old = fit_at s.tree.ways s.lines (b % s.sets) c.index-self-set.result (omega arith) s.fits in
    let new = line_fits s.tree.ways b (get_or s.lines (b % s.sets) c.index-self-set.result) c.access.new.self s.tree.size old c.access.ensures.moved in
    record { some = s.some; few = s.few; room = length-set s.lines (b % s.sets) c.access.new.self ∙ s.room; fits = fit_set s.tree.ways s.lines (b % s.sets) c.access.new.self new s.fits }

pub returns : goal.returns
returns c =
    let s = c.args.self.now in
    let b = c.args.block in
    let room : s.sets ≤ length s.lines = omega arith in
    let m : b % s.sets < s.sets = mod-lt b s.some in
    let e = c.access.ensures.moved in
    record {
      outcome = c.access.ensures.hit ∙ load_meets s.sets s.tree.ways b s.lines c.index-self-set.result c.access.new.self room m e;
      moved = load_moves s.sets s.tree.ways b s.lines c.index-self-set.result c.access.new.self room m e;
    }
