use Rattle.std.proofs.Common.{◌≡◌, ℕ, ◌≤◌, List, length, take}
use Rattle.recency.specs.Misses.{possible_misses}
use Rattle.recency.specs.Rows.{row_run}
use Rattle.cache.specs.Misses.{Misses}
use Rattle.cache.proofs.run.run_accesses.Given as goal

-- what the whole run ensures, of the accesses so far
abbrev pub invariant-loop-block : goal.invariant-loop-block
invariant-loop-block g l =
    let m = g.C.Cache in
    let s = m.sets l.initial.cache in
    let w = m.life l.initial.cache in
    let done = take l.block-index l.blocks in
    (l.block-index ≤ length l.blocks) ×
    (l.misses ≤ l.block-index) ×
    (m.sets l.cache ≡ s) ×
    (m.life l.cache ≡ w) ×
    ((row : List (List ℕ)) → m.vouches l.initial.cache row → m.vouches l.cache (row_run s w done row)) ×
    ((row : List (List ℕ)) → m.vouches l.initial.cache row → l.misses ≤ possible_misses s w done row) ×
    Misses m.holds l.initial.cache done l.misses l.cache
