-- `repeat` meets its contract: the place stays within the text.
use Prim.Native.Nat.{◌≤◌}
use lib.ListN.{length}
use Rattle.cases_replies.proofs.repeat.Given as goal

abbrev pub invariant-loop : goal.invariant-loop
invariant-loop l = l.n ≤ length l.text
