-- `in_bytes` meets its contract. The invariant: the entries before i are written (`Written`).
use Rattle.call_standing.proofs.Writing.{Written}
use Rattle.call_standing.proofs.in_bytes.Given as goal

abbrev pub invariant-loop-i : goal.invariant-loop-i
invariant-loop-i l = Written l.table l.i l.bytes
