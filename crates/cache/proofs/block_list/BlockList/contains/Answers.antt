use Rattle.std.proofs.Common.{ap, ◌∙◌}
use Rattle.recency.specs.Blocks.{has}
use Rattle.recency.proofs.Contained.{has_contained}
use Rattle.cache.proofs.block_list.BlockList.contains.Goals as goal

pub returns : goal.returns
returns c = has_contained _ c.args.block _ c.contains.ensures.cases ∙ ap (has c.args.block) c.as_slice.ensures.value
