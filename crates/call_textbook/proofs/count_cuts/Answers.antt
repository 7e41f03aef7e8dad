use native.Mathlib.Omega.{arith}
use Rattle.laws.specs.Entries.{at}
use Rattle.call_textbook.proofs.Cutting.{counting_start, counting_cut, counting_pass, counting_done}
use Rattle.call_textbook.proofs.count_cuts.Goals as goal
use Rattle.call_textbook.proofs.count_cuts.Goals.{then-last-ring, else-last-ring}

pub loop-p-init : goal.loop-p-init
loop-p-init c =
    let a = c.args in counting_start (at a.ring.now.latest.now) a.ring.now.m a.g c.requires.0 c.requires.1

pub overflow_add-cuts : goal.overflow_add-cuts
overflow_add-cuts c = omega (arith, c.loop-p.invariant.few)

pub loop-p-preserved : goal.loop-p-preserved
loop-p-preserved c =
    elim c.if-last-ring.branch [
      | then-last-ring w ↦
          rw (w.cuts-is, w.last-is) (counting_cut c.loop-p.invariant (omega arith) (omega arith))
      | else-last-ring w ↦
          rw (w.cuts-is, w.last-is) (counting_pass c.loop-p.invariant (omega arith) (omega arith))
    ]

pub returns : goal.returns
returns c = counting_done c.loop-p.invariant (omega arith)
