-- `follow` meets its contract. The invariant: the starts before x are followed (`Following`).
use Prim.Native.Nat.{◌-◌}
use Rattle.plan_starts.proofs.Following.{Following}
use Rattle.plan_starts.proofs.follow.Given as goal

abbrev pub invariant-loop-x : goal.invariant-loop-x
invariant-loop-x l = Following l.link l.initial.cs l.initial.fs l.d l.e l.cs l.fs (l.x - 1)
