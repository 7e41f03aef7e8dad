-- `Moves::empty` meets its contract: no move back from any place.
use mathlib.Core.Path.{refl}
use native.Mathlib.Omega.{arith}
use Rattle.desk_moves.specs.Ring.{back_from}
use Rattle.desk_moves.proofs.Moves.empty.Goals as goal

pub returns : goal.returns
unfolding back_from
returns c = record { moves_are = refl; ring = record { head_fits = omega arith; many_fits = omega arith } }
