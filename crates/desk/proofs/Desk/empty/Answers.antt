use mathlib.Core.Path.{refl}
use Rattle.desk.proofs.Held.{held_empty}
use Rattle.desk.proofs.Desk.empty.Goals as goal

pub returns : goal.returns
returns c =
    held_empty _ refl c.empty.ensures refl c.empty-2.ensures c.empty-3.ensures
    c.empty-4.ensures
