-- `loop_mask` meets its contract. The invariant: the own gaps passed are in the mask (`Masking`).
use Rattle.paper_placements.proofs.Mask.{Masking}
use Rattle.paper_placements.proofs.loop_mask.Given as goal

abbrev pub invariant-loop-g : goal.invariant-loop-g
invariant-loop-g l = Masking l.points l.d l.mask.words l.depth l.g
