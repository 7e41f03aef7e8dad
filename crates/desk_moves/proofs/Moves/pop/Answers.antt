-- `Moves::pop` meets its contract: one place back, one move less (`back_rest`).
use native.Mathlib.Omega.{arith}
use Rattle.desk_moves.proofs.Ring.{back_rest}
use Rattle.desk_moves.proofs.Moves.pop.Goals as goal

pub returns : goal.returns
returns c =
    let s = c.args.self in
    record {
      moves_are = back_rest s.ring s.many s.head c.requires.many_nonzero c.place_before.result c.place_before.ensures.0;
      ring = record { head_fits = c.place_before.ensures.1; many_fits = omega (arith, c.requires.ring.many_fits) };
    }
