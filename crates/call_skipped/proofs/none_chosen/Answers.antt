-- `none_chosen` meets its contract: the empty placement has no gap (`gaps_none`).
use mathlib.Core.Path.{refl}
use Rattle.paper_placements.proofs.Words.{gaps_none}
use Rattle.call_skipped.proofs.none_chosen.Goals as goal

pub returns : goal.returns
returns c =
    record {
      number_is = c.from.ensures;
      line_is = refl;
      set_is = gaps_none c.empty.result.words (λ i l. c.empty.ensures i);
    }
