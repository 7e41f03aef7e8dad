-- `events_child` meets its contract: the gap after the loop, then the gaps of the loop from the right. The invariant:
-- the gaps from x on are filled (`Filling`), and `outer` is the front of a barrier after the loop.
use Prim.Native.Nat.{suc, ◌-◌}
use mathlib.Core.Path.{◌≡◌}
use Rattle.plan_sweeps.specs.Listed.{row}
use Rattle.laws.specs.Choice.{first_of}
use Rattle.plan_starts.proofs.Filling.{Filling}
use Rattle.plan_starts.proofs.events_child.Given as goal

abbrev pub invariant-loop-x : goal.invariant-loop-x
invariant-loop-x l =
    let i = l.inside in
    (l.outer ≡ first_of (row i.left.now i.kids (suc l.l)) (suc l.p)) × Filling l.need i.left.now i.kids l.d l.l l.p
    l.initial.cs l.initial.fs l.initial.link l.cs l.fs l.link l.a (l.x - 1)
