-- `least_in` meets its contract. The invariant: `least` is the least entry of those from lo on that are passed
-- (`LeastIn`).
use Prim.Native.Nat.{◌+◌}
use Rattle.call_improve.specs.Cheapest.{LeastIn}
use Rattle.call_improve.proofs.least_in.Given as goal

abbrev pub invariant-loop-w : goal.invariant-loop-w
invariant-loop-w l = LeastIn l.times l.lo (l.lo + l.w-index) l.least
