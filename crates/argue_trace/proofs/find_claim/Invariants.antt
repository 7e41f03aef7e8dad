-- The claims from the i-th on give what all of them give.
use Rattle.argue_trace.proofs.Finding.{Searching}
use Rattle.argue_trace.proofs.find_claim.Given as goal

abbrev pub invariant-loop-i : goal.invariant-loop-i
invariant-loop-i l = Searching l.claims l.l l.a l.t l.i
