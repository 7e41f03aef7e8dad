use native.Mathlib.Omega.{arith}
use mathlib.Core.Path.{◌≡◌, refl}
use Rattle.paper_nests.proofs.Ends.{fill_none, fill_open, fill_end, fill_do, fill_do_none, fill_other, fill_done}
use Rattle.paper_nests.proofs.ends_of.Goals as goal

pub loop-i-init : goal.loop-i-init
loop-i-init c = fill_none c.args.points.now _ refl

pub loop-i-preserved-in-2-1 : goal.loop-i-preserved-in-2-1
loop-i-preserved-in-2-1 c =
    fill_end _ _ _ _ c.requires (fill_open _ _ _ _ (omega arith) c.loop-i.invariant) c.in-2.is

pub loop-i-preserved-then-end-points : goal.loop-i-preserved-then-end-points
loop-i-preserved-then-end-points c =
    fill_do _ _ _ _ c.requires (fill_open _ _ _ _ (omega arith) c.loop-i.invariant) c.in-1.is c.if-end-points.true

pub loop-i-preserved-in-1-1 : goal.loop-i-preserved-in-1-1
loop-i-preserved-in-1-1 c =
    fill_do_none _ _ _ _ c.requires (fill_open _ _ _ _ (omega arith) c.loop-i.invariant) c.in-1.is c.if-end-points.false

pub loop-i-preserved : goal.loop-i-preserved
loop-i-preserved c =
    fill_other _ _ _ _ c.requires (fill_open _ _ _ _ (omega arith) c.loop-i.invariant) (omega arith) (omega arith)

pub returns : goal.returns
returns c =
    let z : c.loop-i.i ≡ 0 = omega arith in
    fill_done c.args.points.now c.loop-i.ends c.loop-i.end (rw z at c.loop-i.invariant)
