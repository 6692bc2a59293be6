use Rattle.std.proofs.Common.{◌≡◌, ℕ, ◌+◌, ◌<◌, true, false, List, length, get_or, take, sym, ap, ◌∙◌, ⊎_elim, arith, take_all}
use Rattle.std.proofs.lemmas.Bool.{cases_Bool}
use Rattle.recency.specs.Blocks.{has}
use Rattle.recency.specs.Rows.{empty_row, list_of, row_run}
use Rattle.recency.proofs.Runs.{run_more, misses_more as possible-more}
use Rattle.cache.specs.Outcomes.{outcome_of}
use Rattle.cache.specs.declared.outcome.Outcome.TheVariants.{Hit}
use Rattle.cache.proofs.Runs.{misses_more, hit_held, missed_held}
use Rattle.cache.proofs.run.run_accesses.Goals as goal
use Rattle.cache.proofs.run.run_accesses.Goals.{in-Hit, in-Miss}

pub loop-block-preserved : goal.loop-block-preserved
loop-block-preserved g c =
    let m = g.C.Cache in
    let bs = c.args.blocks.now in
    let i = c.loop-block.block-index in
    let b = get_or bs i 0 in
    let s = m.sets c.args.cache.now in
    let w = m.life c.args.cache.now in
    let inv = c.loop-block.invariant in
    let a = c.access.ensures in
    let taken : i < length bs = c.loop-block-test.true in
    let hit : (row : List (List ℕ)) → m.vouches c.args.cache.now row → has b (list_of s b (row_run s w (take i bs) row)) ≡ true → c.access.result ≡ Hit =
    λ row v e. a.hit ∙ ap outcome_of (g.met.C.Cache.holds_what_it_vouches_for c.loop-block.cache (row_run s w (take i bs) row) b (inv.4 row v) (rw inv.2 e)) in
    let moved : (row : List (List ℕ)) → m.vouches c.args.cache.now row → m.vouches c.access.new.self (row_run s w (take (i + 1) bs) row) =
    λ row v. rw (run_more s w bs i row taken) (rw (inv.2, inv.3) at (a.moves (row_run s w (take i bs) row) (inv.4 row v))) in (
      omega arith,
      elim c.match-access.branch [ in-Hit w ↦ omega (arith, w.misses-is) | in-Miss w ↦ omega (arith, w.misses-is) ],
      a.sets ∙ inv.2,
      a.life ∙ inv.3,
      moved,
      λ row v.
          let more = possible-more s w bs i row taken in
          let few = inv.5 row v in
          elim c.match-access.branch [
            | in-Hit w ↦ omega (arith, w.misses-is, more)
            | in-Miss w ↦
                ⊎_elim
                (λ (e : has b (list_of s b (row_run s (m.life c.args.cache.now) (take i bs) row)) ≡ true).
                let r = hit row v e in let is = w.in-Miss.is in let z : ◌≡◌ {A = ℕ} 0 1 = cc in absurd (omega arith))
                (λ (e : has b (list_of s b (row_run s (m.life c.args.cache.now) (take i bs) row)) ≡ false). omega (arith, w.misses-is, rw e at more))
                (cases_Bool (has b (list_of s b (row_run s (m.life c.args.cache.now) (take i bs) row))))
          ],
      misses_more m.holds bs i c.loop-block.misses _ c.args.cache.now c.loop-block.cache c.access.new.self taken inv.6 a.held
          (elim c.match-access.branch [
            | in-Hit w ↦ let e = hit_held _ (sym a.hit ∙ w.in-Hit.is) in rw e (omega (arith, w.misses-is))
            | in-Miss w ↦ let e = missed_held _ (sym a.hit ∙ w.in-Miss.is) in rw e (omega (arith, w.misses-is))
          ]),
    )

pub returns : goal.returns
returns g c =
    let inv = c.loop-block.invariant in
    let all = take_all c.loop-block.block-index c.args.blocks.now c.loop-block-test.false in
    let moves = rw all at inv.4 in
    let bounded = rw all at inv.5 in
    let start = g.met.C.Cache.vouches_for_empty_lists c.args.cache.now in
    record {
      counted = rw all at inv.6;
      sets = inv.2;
      life = inv.3;
      moves = moves;
      vouched = moves (empty_row (g.C.Cache.sets c.args.cache.now)) start;
      bounded = bounded;
      bounded_from_empty = bounded (empty_row (g.C.Cache.sets c.args.cache.now)) start;
    }
