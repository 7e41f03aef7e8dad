-- The answer so far is that of the records before i (`Taken`), and the table has the loops' ends.
use Rattle.desk.specs.Desks.{desk_in}
use Rattle.call_list.specs.Lists.{all_deps}
use Rattle.call_list.proofs.Turns.{Taken}
use Rattle.call_list.proofs.check_list.Given as goal

abbrev pub invariant-loop-i : goal.invariant-loop-i
invariant-loop-i l = Taken (desk_in l.desk) (all_deps l.list) l.i l.found
