use native.Mathlib.Omega.{arith}
use Rattle.plan_starts.proofs.Marking.{marking_do, marking_other}
use Rattle.plan_starts.proofs.mark.Goals as goal
use Rattle.plan_starts.proofs.mark.Goals.{then-inside-p-eq-DO, else-inside-p-eq-DO}

pub loop-p-preserved : goal.loop-p-preserved
loop-p-preserved c =
    let r = c.requires in
    let s = c.loop-p.invariant in
    elim c.if-inside-p-eq-DO.branch [
      | then-inside-p-eq-DO w ↦ rw w.need-is (marking_do r s (omega arith) w.if-inside-p-eq-DO.true w.end_after.ensures)
      | else-inside-p-eq-DO w ↦ rw w.need-is (marking_other r s (omega arith) w.if-inside-p-eq-DO.false)
    ]
