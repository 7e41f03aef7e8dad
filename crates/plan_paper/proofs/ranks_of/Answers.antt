use mathlib.Core.Path.{◌≡◌}
use native.Mathlib.Omega.{arith}
use borrow.Author.Rules.{rules}
use lib.ListN.{length}
use Rattle.paper_nests.specs.Kinds.{POINTS}
use Rattle.paper_nests.specs.Stored.{nest_in}
use Rattle.plan_paper.proofs.Ranking.{ranks_start, rank_fits, ranks_on, ranks_done}
use Rattle.plan_paper.proofs.ranks_of.Goals as goal

pub overflow_add-rank : goal.overflow_add-rank
overflow_add-rank c =
    let long : length c.free_of-ranks.result ≡ POINTS = search rules in
    let bs = (nest_in c.args.nest).barred in
    let ranked = c.loop-g.invariant bs (ranks_start bs c.free_of-ranks.result long c.free_of-ranks.ensures) in
    record { fits = omega (arith, rank_fits bs c.loop-g.g c.loop-g.rank c.loop-g.ranks c.loop-g-test.true ranked) }

pub loop-g-preserved : goal.loop-g-preserved
loop-g-preserved c =
    λ bs p. ranks_on bs c.loop-g.g c.loop-g.rank c.loop-g.ranks c.loop-g-test.true (c.loop-g.invariant bs p)

pub returns : goal.returns
returns c =
    let long : length c.free_of-ranks.result ≡ POINTS = search rules in
    let bs = (nest_in c.args.nest).barred in
    ranks_done bs c.loop-g.g c.loop-g.rank c.loop-g.ranks c.loop-g-test.false
    (c.loop-g.invariant bs (ranks_start bs c.free_of-ranks.result long c.free_of-ranks.ensures))
