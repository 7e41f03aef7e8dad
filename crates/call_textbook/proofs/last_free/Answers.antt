use Prim.Native.Nat.{◌<◌}
use native.Mathlib.Omega.{arith}
use Rattle.laws.proofs.Copies.{copies}
use Rattle.paper_placements.specs.Words.{GAPS, gaps_in}
use Rattle.call_textbook.proofs.Places.{gap_last}
use Rattle.call_textbook.proofs.Tables.{held_barred, unheld_free, free_start, free_barred, free_open}
use Rattle.call_textbook.proofs.Tables.{free_done}
use Rattle.call_textbook.proofs.last_free.Goals as goal
use Rattle.call_textbook.proofs.last_free.Goals.{then-holds, else-holds}

pub loop-p-init : goal.loop-p-init
unfolding copies
loop-p-init c = free_start (gaps_in c.args.barred.words) c.args.m

pub holds-requires : goal.holds-requires
holds-requires c = omega (arith, c.gap_at.ensures, gap_last c.args.m c.loop-p.p (omega arith))

pub overflow_sub-free : goal.overflow_sub-free
overflow_sub-free c = c.loop-p.invariant.first

pub loop-p-preserved : goal.loop-p-preserved
loop-p-preserved c =
    let m = c.args.m in
    let ws = c.args.barred.words in
    let gap = c.gap_at.result in
    let fits : gap < GAPS = omega (arith, c.gap_at.ensures, gap_last m c.loop-p.p (omega arith)) in
    elim c.if-holds.branch [
      | then-holds w ↦
          let barred = held_barred ws gap c.holds.result fits c.holds.ensures w.if-holds.true in
          rw w.free-is (free_barred c.loop-p.invariant (omega arith) (rw c.gap_at.ensures at barred))
      | else-holds w ↦
          let free = unheld_free ws gap c.holds.result fits c.holds.ensures w.if-holds.false in
          rw w.free-is (free_open c.loop-p.invariant (omega arith) (rw c.gap_at.ensures at free))
    ]

pub returns : goal.returns
returns c = free_done c.loop-p.invariant (omega arith)
