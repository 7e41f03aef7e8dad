-- `taken_back` meets its contract: before gap g the gaps are taken back, and `rank` is the key's next rank (`Taking`).
use Prim.Native.Nat.{◌-◌}
use Rattle.paper_nests.specs.Stored.{nest_in}
use Rattle.plan_paper.proofs.TakingBack.{Taking}
use Rattle.plan_paper.proofs.taken_back.Given as goal

abbrev pub invariant-loop-g : goal.invariant-loop-g
invariant-loop-g l = Taking (nest_in l.fn.nest).barred l.key.words (l.fn.nest.count - 1) l.g l.rank l.back.words
