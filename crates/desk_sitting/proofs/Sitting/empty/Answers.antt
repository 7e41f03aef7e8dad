-- `Sitting::empty` meets its contract: an empty placement, an array of zeros.
use mathlib.Core.Path.{refl}
use Rattle.laws.proofs.Copies.{copies, copies_at}
use Rattle.paper_placements.proofs.Words.{gaps_none}
use Rattle.desk_sitting.proofs.Sitting.empty.Goals as goal

pub returns : goal.returns
unfolding copies
returns c =
    record {
      no_gaps = gaps_none c.empty.result.words (λ i h. c.empty.ensures i);
      no_cuts = copies_at 512 0;
      uncut_is = refl;
    }
