-- `exceeds` meets its contract: the two nests decide (`exceeds_by`).
use native.Mathlib.Omega.{arith}
use Rattle.std.proofs.lemmas.Bool.Decides.{nat_tests}
use Rattle.paper_nests.specs.Stored.{nest_in}
use Rattle.call_join.proofs.Limits.{exceeds_by}
use Rattle.call_join.proofs.exceeds.Goals as goal

pub returns-then-deepest-ge-DEPTH : goal.returns-then-deepest-ge-DEPTH
returns-then-deepest-ge-DEPTH c =
    let b = c.args.both.now in
    rw (exceeds_by (nest_in b.n.now) (nest_in b.m.now) b.papers) (grind (arith, nat_tests))

pub returns-else-deepest-ge-DEPTH : goal.returns-else-deepest-ge-DEPTH
returns-else-deepest-ge-DEPTH c =
    let b = c.args.both.now in
    rw (exceeds_by (nest_in b.n.now) (nest_in b.m.now) b.papers) (grind (arith, nat_tests))
