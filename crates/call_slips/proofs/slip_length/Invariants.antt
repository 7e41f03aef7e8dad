-- `slip_length` meets its contract: the loops before point d are measured (`Measured`).
use Rattle.paper_nests.specs.Stored.{nest_in}
use Rattle.call_slips.proofs.Lengths.{Measured}
use Rattle.call_slips.proofs.slip_length.Given as goal

abbrev pub invariant-loop-point : goal.invariant-loop-point
invariant-loop-point l = Measured (nest_in l.fn.nest) l.length l.point-index
