use native.Mathlib.Omega.{arith}
use Rattle.argue_loops.proofs.Looping.{loops_begin, loops_on, loops_done}
use Rattle.argue_loops.proofs.give_loops.Goals as goal

pub loop-d-init : goal.loop-d-init
loop-d-init c = loops_begin c.requires.lists_room

pub loop-d-preserved : goal.loop-d-preserved
loop-d-preserved c =
    let w = c.give_point-s in
    let r = w.ensures.lists_room_2 in
    loops_on c.loop-d.invariant (omega arith) w.ensures.gives r.0 w.auto.out r.1

pub returns : goal.returns
returns c = loops_done c.loop-d.invariant (omega arith)
