-- `ranks_of` meets its contract: before gap g the table has ranks, from g on what each gap adds (`RanksTo`), if that was
-- so at the start.
use mathlib.Core.List.{List}
use Prim.Native.Nat.{ℕ}
use Rattle.plan_paper.proofs.Ranking.{RanksTo}
use Rattle.plan_paper.proofs.ranks_of.Given as goal

abbrev pub invariant-loop-g : goal.invariant-loop-g
invariant-loop-g l =
    (bs : List ℕ) → RanksTo bs l.initial.g l.initial.rank l.initial.ranks → RanksTo bs l.g l.rank l.ranks
