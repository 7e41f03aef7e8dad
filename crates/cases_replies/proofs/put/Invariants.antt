-- `put` meets its contract: the place stays within the text.
use Prim.Native.Nat.{◌≤◌}
use lib.ListN.{length}
use Rattle.cases_replies.proofs.put.Given as goal

abbrev pub invariant-loop-byte : goal.invariant-loop-byte
invariant-loop-byte l = l.n ≤ length l.text
