use Rattle.std.proofs.Common.{◌≤◌, length, ap, sym, ◌∙◌, arith, length-set}
use Rattle.recency.specs.Rows.{is_row}
use Rattle.cache.specs.BlockLists.{row_of}
use Rattle.cache.specs.Policies.{step_keeps_row}
use Rattle.cache.proofs.Tables.{list_fits, row_set}
use Rattle.cache.proofs.list_cache.ListCache.load.Goals as goal

pub access-requires : goal.access-requires
access-requires g c =
    let s = c.args.self.now in
    let room : s.sets ≤ length s.lists = omega arith in
    record { some = s.some_ways; few = s.few_ways; fits = list_fits s.sets s.ways c.args.block s.lists _ s.some_sets room s.row }

pub invariant_of-self : goal.invariant_of-self
invariant_of-self g c =
    let s = c.args.self.now in
    let b = c.args.block in
    let row = row_of s.sets s.lists in
    let room : s.sets ≤ length s.lists = omega arith in
    let moved = row_set s.sets s.ways b s.lists _ s.some_sets room (g.P.Policy.step s.ways b) c.access.new.list c.access.ensures.moved in
    record { room = length-set s.lists _ _ ∙ s.room; some_sets = s.some_sets; few_sets = s.few_sets; some_ways = s.some_ways; few_ways = s.few_ways; row = ap (is_row s.sets s.ways) moved ∙ step_keeps_row g.met.P.Policy.laws s.sets s.ways s.some_sets b row s.row }

pub returns-clause-moved : goal.returns-clause-moved
returns-clause-moved g c =
    let s = c.args.self.now in
    let room : s.sets ≤ length s.lists = omega arith in
    row_set s.sets s.ways c.args.block s.lists _ s.some_sets room (g.P.Policy.step s.ways c.args.block) c.access.new.list c.access.ensures.moved

pub returns-clause-row : goal.returns-clause-row
returns-clause-row g c =
    let s = c.args.self.now in
    let room : s.sets ≤ length s.lists = omega arith in
    row_set s.sets s.ways c.args.block s.lists _ s.some_sets room (g.P.Policy.step s.ways c.args.block) c.access.new.list c.access.ensures.moved
    ∙ sym (g.met.P.Policy.row_law s.sets s.ways c.args.block (row_of s.sets s.lists))
