-- `improve_key` meets its contract. The invariant: the rest of the budget, from the current placement and the gaps from
-- g on, leads to what the rule gives (`Searching`). The measure is the budget that is left.
use Prim.Native.Nat.{◌-◌}
use Rattle.paper_placements.specs.Words.{gaps_in}
use Rattle.call_improve.proofs.RoundTurns.{Searching}
use Rattle.call_improve.proofs.improve_key.Given as goal

abbrev pub invariant-loop-g : goal.invariant-loop-g
invariant-loop-g l =
    Searching l.fn.nest l.turns (gaps_in l.fn.key.words) l.budget l.current l.tries l.g

abbrev pub decreases-loop-g : goal.decreases-loop-g
decreases-loop-g l = l.budget - l.tries
