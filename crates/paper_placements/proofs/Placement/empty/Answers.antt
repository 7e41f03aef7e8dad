-- `Placement::empty` meets its contract: words of zeros hold no gap.
use Rattle.paper_placements.proofs.Words.{holds_empty}
use Rattle.paper_placements.proofs.Placement.empty.Goals as goal

pub returns : goal.returns
returns _ = holds_empty
