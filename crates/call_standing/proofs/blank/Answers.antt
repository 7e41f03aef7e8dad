-- `blank` meets its contract: no gap, and each table has one value, 0.
use mathlib.Core.Path.{refl}
use Rattle.laws.proofs.Copies.{copies, copies_at}
use Rattle.paper_placements.proofs.Words.{gaps_none}
use Rattle.call_standing.proofs.blank.Goals as goal

pub returns : goal.returns
unfolding copies
returns c =
    record {
      number_is = c.from.ensures;
      line_is = refl;
      no_gaps = gaps_none _ (λ i l. c.empty.ensures i);
      no_counts = copies_at 256 0;
      no_cuts = copies_at 512 0;
      none_uncut = refl;
    }
