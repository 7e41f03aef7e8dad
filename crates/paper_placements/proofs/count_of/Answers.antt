-- `count_of` meets its contract: the ones under the mask of the loop's own gaps (`masked_count`).
use Rattle.paper_placements.proofs.Masked.{masked_count}
use Rattle.paper_placements.proofs.count_of.Goals as goal

pub returns : goal.returns
returns c = masked_count _ c.args.p.words c.loop_mask-mask.result.words _ _ c.requires.words_value c.loop_mask-mask.ensures c.loop_count.ensures
