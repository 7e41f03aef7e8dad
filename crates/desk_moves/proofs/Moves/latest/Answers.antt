-- `Moves::latest` meets its contract: the move at the head is the first (`back_first`).
use Rattle.desk_moves.proofs.Ring.{back_first}
use Rattle.desk_moves.proofs.Moves.latest.Goals as goal

pub returns : goal.returns
returns c =
    let s = c.args.self in
    back_first s.ring s.many s.head c.requires.many_nonzero
