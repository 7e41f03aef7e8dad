use mathlib.Core.Path.{refl}
use mathlib.Core.Bool.{false}
use native.Mathlib.Omega.{arith}
use Rattle.laws.proofs.Copies.{copies, copies_at}
use Rattle.desk_sitting.proofs.Around.{walk_start, walk_around}
use Rattle.desk_sitting.proofs.Around.{walk_over_do, walk_over_end, walk_over_other}
use Rattle.desk_sitting.proofs.loops_around.Goals as goal

pub loop-i-init : goal.loop-i-init
unfolding copies
loop-i-init c = walk_start c.args.points.now c.args.g (copies 256 false) refl (copies_at 256 false)

pub loop-i-preserved-then-depth-eq0 : goal.loop-i-preserved-then-depth-eq0
loop-i-preserved-then-depth-eq0 c =
    let r = c.requires in
    walk_around _ r.points_value.0 _ r.points_value.1 r.g_nonzero.1 _ _ _ c.loop-i-test.true c.loop-i.invariant c.in-1.is c.if-depth-eq0.true

pub loop-i-preserved-in-1-2 : goal.loop-i-preserved-in-1-2
loop-i-preserved-in-1-2 c =
    let r = c.requires in
    walk_over_do _ r.points_value.0 _ r.points_value.1 r.g_nonzero.1 _ _ _ c.loop-i-test.true c.loop-i.invariant c.in-1.is c.if-depth-eq0.false

pub loop-i-preserved-in-2 : goal.loop-i-preserved-in-2
loop-i-preserved-in-2 c =
    let r = c.requires in
    walk_over_end _ r.points_value.0 _ r.points_value.1 r.g_nonzero.1 _ _ _ c.loop-i-test.true c.loop-i.invariant c.in-2.is

pub loop-i-preserved : goal.loop-i-preserved
loop-i-preserved c =
    let r = c.requires in
    walk_over_other _ r.points_value.0 _ r.points_value.1 r.g_nonzero.1 _ _ _ c.loop-i-test.true c.loop-i.invariant (omega arith) (omega arith)
