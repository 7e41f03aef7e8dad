-- `not_chosen` meets its contract: the empty placement has no gap (`gaps_none`).
use mathlib.Core.Path.{refl}
use Rattle.paper_placements.proofs.Words.{gaps_none}
use Rattle.desk.proofs.not_chosen.Goals as goal

pub returns : goal.returns
returns g c =
    record {
      number_is = c.number.ensures;
      line_is = refl;
      set_is = gaps_none c.empty.result.words (λ i l. c.empty.ensures i);
    }
