use Rattle.std.proofs.Common.{◌%◌, sym, ap, ◌∙◌, subst, mod-lt, arith}
use Rattle.plru.specs.Caches.{CacheState, Guarded, holds_block, life_of}
use Rattle.plru.specs.Contents.{contents}
use Rattle.plru.specs.Guarding.{block_held, guarded_step}
use Rattle.plru.specs.Lines.{states_length, few_at}
use Rattle.recency.specs.Rows.{row_step}
use Rattle.plru.proofs.plru.methods.PlruCache.access.Goals as goal

pub returns : goal.returns
returns c =
    let s = c.args.self.now in
    let b = c.args.block in
    let moved = c.load.ensures.moved in
    let long = states_length s.sets s.lines (omega arith) in
    record {
      hit = c.load.ensures.outcome;
      held = ap (λ (k : CacheState). holds_block k b) moved ∙ block_held (contents s) s.some long s.tree.size b;
      sets = ap (λ (k : CacheState). k.sets) moved;
      life = ap (λ (k : CacheState). life_of k.ways) moved;
      moves = λ row g. subst (λ (k : CacheState). Guarded k (row_step s.sets (life_of s.tree.ways) b row)) (sym moved)
          (guarded_step (contents s) s.some long s.tree.size b (few_at s.sets s.lines s.tree.ways (b % s.sets) (omega arith) (mod-lt b s.some) s.fits) row g);
    }
