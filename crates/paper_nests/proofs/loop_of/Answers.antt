use native.Mathlib.Omega.{arith}
use Rattle.paper_nests.proofs.Backward.{back_found, back_ends}
use Rattle.paper_nests.proofs.Backward.{back_over_do, back_over_end, back_over_other}
use Rattle.paper_nests.proofs.loop_of.Goals as goal

pub returns-in-1 : goal.returns-in-1
returns-in-1 c =
    let r = c.requires in
    back_found _ r.points_value _ r.g_nonzero.0 r.g_nonzero.1 _ _ c.loop-i-test.true c.loop-i.invariant c.in-1.is c.if-depth-eq0.true

pub loop-i-preserved-in-1-2 : goal.loop-i-preserved-in-1-2
loop-i-preserved-in-1-2 c =
    let r = c.requires in
    back_over_do _ r.points_value _ r.g_nonzero.0 r.g_nonzero.1 _ _ c.loop-i-test.true c.loop-i.invariant c.in-1.is c.if-depth-eq0.false

pub loop-i-preserved-in-2 : goal.loop-i-preserved-in-2
loop-i-preserved-in-2 c =
    let r = c.requires in
    back_over_end _ r.points_value _ r.g_nonzero.0 r.g_nonzero.1 _ _ c.loop-i-test.true c.loop-i.invariant c.in-2.is

pub loop-i-preserved : goal.loop-i-preserved
loop-i-preserved c =
    let r = c.requires in
    back_over_other _ r.points_value _ r.g_nonzero.0 r.g_nonzero.1 _ _ c.loop-i-test.true c.loop-i.invariant (omega arith) (omega arith)

pub returns : goal.returns
returns c =
    let r = c.requires in
    absurd (back_ends _ r.points_value _ r.g_nonzero.0 r.g_nonzero.1 _ _ c.loop-i-test.false c.loop-i.invariant)
