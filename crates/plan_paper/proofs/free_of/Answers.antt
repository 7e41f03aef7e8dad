use Prim.Native.Nat.{◌-◌}
use borrow.Author.Rules.{rules}
use lib.ListN.{get_or}
use mir.Syntax.{w8}
use mir.Val.{Fits}
use Rattle.laws.proofs.Copies.{copies}
use Rattle.plan_paper.proofs.Ranking.{free_start, free_on}
use Rattle.plan_paper.proofs.free_of.Goals as goal

pub loop-i-init : goal.loop-i-init
unfolding copies
loop-i-init c = free_start c.args.nest c.requires

pub loop-i-preserved : goal.loop-i-preserved
loop-i-preserved c =
    let z : Fits w8 (get_or c.args.nest.barred (c.loop-i.i - 1) 0) = search rules in
    free_on c.args.nest c.requires c.loop-i.i c.loop-i-test.true c.loop-i.free z.fits
    c.loop-i.invariant
