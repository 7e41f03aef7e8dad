use mathlib.Core.Path.{ap}
use native.Mathlib.Omega.{arith}
use lib.ListN.{length}
use Rattle.paper_nests.specs.Stored.{nest_in}
use Rattle.call_slips.proofs.Lengths.{measure_start, measure_do, measure_skip, measure_done}
use Rattle.call_slips.proofs.slip_length.Goals as goal
use Rattle.call_slips.proofs.slip_length.Goals.{then-point-eq-DO, else-point-eq-DO}

pub loop-point-init : goal.loop-point-init
loop-point-init c = measure_start (nest_in c.args.nest)

pub overflow_add-length : goal.overflow_add-length
overflow_add-length c =
    omega (
      arith,
      c.loop-point.invariant.small,
      ap length c.points-point-items.ensures,
      c.requires.count_is,
      c.requires.count_fits,
    )

pub loop-point-preserved : goal.loop-point-preserved
loop-point-preserved c =
    elim c.if-point-eq-DO.branch [
      | then-point-eq-DO w ↦
          rw w.length-is (measure_do (nest_in c.args.nest) _ _ c.loop-point.invariant
          (rw c.points-point-items.ensures at c.loop-point-test.true)
          (rw c.points-point-items.ensures at w.if-point-eq-DO.true))
      | else-point-eq-DO w ↦
          rw w.length-is (measure_skip (nest_in c.args.nest) _ _ c.loop-point.invariant
          (rw c.points-point-items.ensures at c.loop-point-test.true)
          (rw c.points-point-items.ensures at w.if-point-eq-DO.false))
    ]

pub returns : goal.returns
returns c =
    measure_done (nest_in c.args.nest) _ _ c.loop-point.invariant
    (omega (arith, ap length c.points-point-items.ensures))
