use native.Mathlib.Omega.{arith}
use Rattle.plan_tables.proofs.Charting.{chart_start, chart_done, on_do, on_end, on_plain, height_there}
use Rattle.plan_tables.proofs.chart_loops.Goals as goal
use Rattle.plan_tables.proofs.chart_loops.Goals.{then-kind-eq-DO, else-kind-eq-DO+then-kind-eq-ENDDO}
use Rattle.plan_tables.proofs.chart_loops.Goals.{else-kind-eq-DO+else-kind-eq-ENDDO}

pub loop-i-init : goal.loop-i-init
loop-i-init c = chart_start c.requires.chart_room c.requires.unowned

pub overflow_sub-h : goal.overflow_sub-h
overflow_sub-h c = height_there c.requires.points c.loop-i.invariant (omega arith) c.if-kind-eq-DO.true

pub loop-i-preserved : goal.loop-i-preserved
loop-i-preserved c =
    let p = c.requires.points in
    let s = c.loop-i.invariant in
    elim c.if-kind-eq-DO.branch [
      | then-kind-eq-DO w ↦
          rw (w.o-is, w.h-is, w.ends-is, w.heights-is) (on_do p s (omega arith) w.if-kind-eq-DO.true)
      | else-kind-eq-DO+then-kind-eq-ENDDO w ↦
          rw (w.o-is, w.h-is, w.ends-is, w.heights-is)
          (on_end p s (omega arith) w.if-kind-eq-DO.false w.if-kind-eq-ENDDO.true)
      | else-kind-eq-DO+else-kind-eq-ENDDO w ↦
          rw (w.o-is, w.h-is, w.ends-is, w.heights-is)
          (on_plain p s (omega arith) w.if-kind-eq-DO.false w.if-kind-eq-ENDDO.false)
    ]

pub returns : goal.returns
returns c = chart_done c.requires.points c.loop-i.invariant (omega arith)
