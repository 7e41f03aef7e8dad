-- `name_gaps` meets its contract: from the last gap to the first, those behind are fine and what is left of them was
-- named (`Naming`).
use Prim.Native.Nat.{◌-◌}
use Rattle.argue_weigh.specs.Naming.{left_at, fine_at}
use Rattle.argue_weigh.proofs.Steps.{Naming}
use Rattle.argue_weigh.proofs.name_gaps.Given as goal

abbrev pub invariant-loop-g : goal.invariant-loop-g
invariant-loop-g l =
    let left = left_at l.set.words l.gone.words l.struck l.d in
    Naming (fine_at l.set.words l.gone.words l.owners l.struck l.d l.e) left l.last l.initial.times (l.g - 1) l.times
