-- `blank` meets its contract: each table has one value, 0.
use mathlib.Core.Path.{refl}
use Rattle.laws.proofs.Copies.{copies, copies_at}
use Rattle.call_shape.proofs.blank.Goals as goal

pub returns : goal.returns
unfolding copies
returns c =
    record {
      number_is = c.from.ensures;
      line_is = refl;
      no_owners = copies_at 256 0;
      no_ends = copies_at 256 0;
      no_depths = copies_at 256 0;
    }
