use Rattle.std.proofs.Common.{◌≡◌, ℕ, suc, ◌+◌, List, map, length, take, set, ap, ◌∙◌, arith}
use Rattle.std.proofs.lemmas.List.{take_all}
use Rattle.recency.specs.Blocks.{set_of}
use Rattle.task.proofs.Drafting.{kept}
use Rattle.task.specs.Tasks.{contents}
use Rattle.rowkinds.specs.BlockSets.{filled_up}
use Rattle.rowkinds.proofs.Filling.{filled_more}
use Rattle.rowkinds.proofs.sets.block_sets.Goals as goal

pub loop-i-preserved : goal.loop-i-preserved
loop-i-preserved c =
    let t = contents c.args.task.now in
    let f = set_of t.sets in
    let bs = c.blocks-blocks.result.now in
    let i = c.loop-i.i in
    let few = (kept t c.args.task.now.draft.legal).blocks_few in
    let long = ap length c.blocks-blocks.ensures.value in
    let next : suc i ≡ i + 1 = omega arith in
    ap (λ (zs : List ℕ). set zs i c.set_of.result) c.loop-i.invariant
    ∙ ap (λ (v : ℕ). set (filled_up 64 (map f (take i bs))) i v) c.set_of.ensures.value
    ∙ filled_more f 64 i bs (omega arith) (omega arith)
    ∙ ap (λ (k : ℕ). filled_up 64 (map f (take k bs))) next

pub returns : goal.returns
returns c =
    let t = contents c.args.task.now in
    let bs = c.blocks-blocks.result.now in
    c.loop-i.invariant ∙ ap (λ (zs : List ℕ). filled_up 64 (map (set_of t.sets) zs)) (take_all c.loop-i.i bs (omega arith) ∙ c.blocks-blocks.ensures.value)
