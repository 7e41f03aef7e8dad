-- Each turn takes four bytes as one record (proofs/Bytes); what is left over is one of no kind.
use Prim.Native.Nat.{◌*◌}
use Rattle.desk.specs.Desks.{desk_in}
use Rattle.host.proofs.Bytes.{Taken}
use Rattle.host.proofs.desk_list.Given as goal

abbrev pub invariant-loop-i : goal.invariant-loop-i
invariant-loop-i l = Taken (desk_in l.desk) l.list l.i (l.i * 4) l.found
