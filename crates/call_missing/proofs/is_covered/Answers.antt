use Prim.Native.Nat.{◌<◌}
use native.Mathlib.Omega.{arith}
use Rattle.paper_placements.specs.Words.{GAPS}
use Rattle.call_missing.proofs.Covering.{cover_start, cover_on, cover_bare, cover_done, step_on}
use Rattle.call_missing.proofs.is_covered.Goals as goal

pub loop-g-init : goal.loop-g-init
loop-g-init c = cover_start c.lowest_in-g.ensures

pub returns-then-g-d : goal.returns-then-g-d
returns-then-g-d c =
    cover_bare c.requires.are_loops c.loop-g-test.true c.loop-g.invariant
    c.lowest_from-d.ensures (omega arith)

pub after-p-requires : goal.after-p-requires
after-p-requires c =
    let below : c.lowest_from-d.result < GAPS = omega arith in
    (below, c.requires.are_loops.fits c.lowest_from-d.result below (c.lowest_from-d.ensures.held below).1)

pub loop-g-smaller : goal.loop-g-smaller
loop-g-smaller c =
    let below : c.lowest_from-d.result < GAPS = omega arith in
    omega (
      arith,
      (c.lowest_from-d.ensures.held below).0,
      step_on c.requires.are_loops c.loop-g-test.true c.loop-g.invariant
          c.lowest_from-d.ensures (omega arith)
          c.after-p.ensures,
    )

pub loop-g-preserved : goal.loop-g-preserved
loop-g-preserved c =
    cover_on c.requires.are_loops c.loop-g-test.true c.loop-g.invariant
    c.lowest_from-d.ensures (omega arith)
    c.after-p.ensures c.lowest_in-g-in-loop-g.ensures

pub returns : goal.returns
returns c = cover_done c.loop-g-test.false c.loop-g.invariant
