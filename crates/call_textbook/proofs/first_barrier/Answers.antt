use mathlib.Core.Path.{◌≡◌}
use mathlib.Core.Bool.{true}
use native.Mathlib.Omega.{arith}
use Rattle.laws.specs.Entries.{at}
use Rattle.paper_placements.specs.Words.{gaps_in}
use Rattle.paper_placements.specs.Placements.{is_free}
use Rattle.call_textbook.specs.Places.{cuts_behind}
use Rattle.call_textbook.proofs.Tables.{held_barred, unheld_free}
use Rattle.call_textbook.proofs.Choosing.{choose_start, choose_barred, choose_taken, choose_passed}
use Rattle.call_textbook.proofs.Choosing.{choose_done}
use Rattle.call_textbook.proofs.first_barrier.Goals as goal
use Rattle.call_textbook.proofs.first_barrier.Goals.{then-cuts-least, else-cuts-least}

pub loop-g-init : goal.loop-g-init
loop-g-init c =
    let ring = c.args.ring.now in
    let free = is_free (gaps_in c.args.barred.words) in
    record { chosen = choose_start (cuts_behind (at ring.latest.now) ring.m) free ring.m; found = tt }

pub loop-g-preserved-then-holds : goal.loop-g-preserved-then-holds
loop-g-preserved-then-holds c =
    record {
      chosen = choose_barred c.loop-g.invariant.chosen (omega arith) (held_barred c.args.barred.words c.loop-g.g
          c.holds.result (omega arith) c.holds.ensures c.if-holds.true);
      found = c.loop-g.invariant.found;
    }

pub count_cuts-cuts-requires : goal.count_cuts-cuts-requires
count_cuts-cuts-requires c = (omega arith, omega arith)

pub loop-g-preserved : goal.loop-g-preserved
loop-g-preserved c =
    let ws = c.args.barred.words in
    let l = c.loop-g.invariant in
    let cuts = c.count_cuts-cuts in
    let tried : is_free (gaps_in ws) c.loop-g.g ≡ true =
    unheld_free ws c.loop-g.g c.holds.result (omega arith) c.holds.ensures c.if-holds.false in
    elim c.if-cuts-least.branch [
      | then-cuts-least w ↦
          rw (w.best-is, w.least-is)
          (record {
            chosen = choose_taken l.chosen (omega arith) tried cuts.result cuts.ensures (omega arith);
            found = omega (arith, l.chosen.first);
          })
      | else-cuts-least w ↦
          rw (w.best-is, w.least-is)
          (record {
            chosen = choose_passed l.chosen (omega arith) tried cuts.result cuts.ensures (omega arith);
            found = l.found;
          })
    ]

pub returns : goal.returns
returns c =
    record { first = choose_done c.loop-g.invariant.chosen (omega arith); found = c.loop-g.invariant.found }
