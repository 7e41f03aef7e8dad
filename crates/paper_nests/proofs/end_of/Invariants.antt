-- `end_of` meets its contract. The invariant: the scan from here finds what the scan from d finds (`Scanned`).
use Rattle.paper_nests.proofs.Scan.{Scanned}
use Rattle.paper_nests.proofs.end_of.Given as goal

abbrev pub invariant-loop-i : goal.invariant-loop-i
invariant-loop-i l = Scanned l.points l.d l.depth l.i
