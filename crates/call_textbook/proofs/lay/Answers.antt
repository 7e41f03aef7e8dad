use native.Mathlib.Omega.{arith}
use Rattle.laws.specs.Entries.{at}
use Rattle.call_textbook.proofs.Cutting.{laying_start, laying_cut, laying_pass, laying_done}
use Rattle.call_textbook.proofs.Places.{gap_last}
use Rattle.call_textbook.proofs.lay.Goals as goal
use Rattle.call_textbook.proofs.lay.Goals.{then-last-ring, else-last-ring}

pub loop-p-init : goal.loop-p-init
loop-p-init c =
    laying_start (at c.args.ring.now.latest.now) c.args.ring.now.m c.args.g c.empty.result.words
    c.put-placement.result.words c.requires.0 c.requires.1 c.empty.ensures c.put-placement.ensures

pub put-placement-requires-then-last-ring : goal.put-placement-requires-then-last-ring
put-placement-requires-then-last-ring c =
    omega (arith, c.gap_at.ensures, gap_last c.args.ring.now.m c.loop-p.p (omega arith))

pub loop-p-preserved : goal.loop-p-preserved
loop-p-preserved c =
    elim c.if-last-ring.branch [
      | then-last-ring w ↦
          rw (w.placement-is, w.last-is)
          (laying_cut c.loop-p.invariant w.put-placement-then-last-ring.result.words w.gap_at.result
          (omega arith) (omega arith) w.gap_at.ensures w.put-placement-then-last-ring.ensures)
      | else-last-ring w ↦
          rw (w.placement-is, w.last-is) (laying_pass c.loop-p.invariant (omega arith) (omega arith))
    ]

pub returns : goal.returns
returns c = laying_done c.loop-p.invariant (omega arith)
