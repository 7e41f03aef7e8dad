-- `try_at` meets its contract. The invariant: the chains below h are done, and h's before dependence i (`Trying`). The
-- measure is how many gaps are left, then how many places in the chain.
use Prim.Native.Nat.{◌+◌, ◌-◌, ◌*◌}
use Rattle.paper_nests.specs.Stored.{nest_in}
use Rattle.paper_placements.specs.Words.{gaps_in}
use Rattle.call_improve.proofs.Trying.{Trying}
use Rattle.call_improve.proofs.try_at.Given as goal

abbrev pub invariant-loop-i : goal.invariant-loop-i
invariant-loop-i l =
    Trying (nest_in l.tables.nest.now) (gaps_in l.current.placement.words) l.g l.tables.times.now l.h l.i
    (gaps_in l.placement.words) l.calls

abbrev pub decreases-loop-i : goal.decreases-loop-i
decreases-loop-i l = (256 - l.h) * 513 + (512 - l.i)
