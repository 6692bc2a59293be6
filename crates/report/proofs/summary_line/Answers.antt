use Rattle.std.proofs.Common.{append_assoc, rules}
use Rattle.report.proofs.summary_line.Goals as goal

-- the bytes of the format, with each number as the task's contents have it, and its pieces in a row
pub returns : goal.returns
returns c =
    let cache = c.parameters-sets.ensures in
    let points = c.points.ensures.many in
    let blocks = c.blocks-2.ensures.value in
    let text = simp (append_assoc, cache.sets, cache.ways, cache.reload, points, blocks, c.evicting.ensures.value) at c.format.ensures.ok in
    search rules
