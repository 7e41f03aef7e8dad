-- The digits from i on end where all of them do, and so do those after each digit of a turn; what is left at the end is
-- fewer than four bytes.
use Prim.Native.Nat.{◌-◌, ◌≤◌}
use lib.ListN.{length}
use Rattle.paper_lines.proofs.Reading.{Digits-to}
use Rattle.paper_lines.proofs.digits_in.Given as goal

abbrev pub invariant-loop-i : goal.invariant-loop-i
invariant-loop-i l = (l.i ≤ length l.text) × Digits-to l.text l.i

abbrev pub decreases-loop-i : goal.decreases-loop-i
decreases-loop-i l = length l.text - l.i
