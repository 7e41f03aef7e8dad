-- `shape_of` meets its contract. The invariant: the tables have what stands before point p (`Passed`).
use Rattle.call_shape.proofs.Passing.{Passed}
use Rattle.call_shape.proofs.shape_of.Given as goal

abbrev pub invariant-loop-p : goal.invariant-loop-p
invariant-loop-p l = Passed l.points l.owners l.ends l.depths l.depth l.p
