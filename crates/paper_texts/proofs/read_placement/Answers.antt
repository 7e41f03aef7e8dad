use mathlib.Core.Path.{sym, ap}
use native.Mathlib.Omega.{arith}
use Rattle.paper_refusals.specs.Numbers.{number_in}
use Rattle.paper_placements.specs.Words.{gaps_in}
use Rattle.paper_texts.proofs.Placing.{placing, placed_all, placed_bad, placed-fault, next_inside, place_on}
use Rattle.paper_texts.proofs.read_placement.Goals as goal

pub loop-f-init : goal.loop-f-init
loop-f-init c =
    placing c.args.points (gaps_in c.args.barred.words) c.args.text.now c.empty-placement.result.words c.empty-placement.ensures

pub returns-in-Ok-None : goal.returns-in-Ok-None
returns-in-Ok-None c =
    record { placed_is = placed_all c.args.points (gaps_in c.args.barred.words) c.args.text.now c.loop-f.placement.words c.loop-f.last c.loop-f.at c.loop-f.line c.loop-f.invariant (sym (rw c.in-Ok-None.field-0-is at c.in-Ok-None.ensures)) }

pub returns-in-Err : goal.returns-in-Err
returns-in-Err c =
    placed_bad c.args.points (gaps_in c.args.barred.words) c.args.text.now c.loop-f.placement.words c.loop-f.last c.loop-f.at c.loop-f.line c.loop-f.invariant c.in-Err.refusal (sym c.in-Err.ensures)

pub returns-in-Err-fault : goal.returns-in-Err-fault
returns-in-Err-fault c =
    placed-fault c.args.points (gaps_in c.args.barred.words) c.args.text.now c.loop-f.placement.words c.loop-f.last c.loop-f.at c.loop-f.line c.loop-f.invariant c.in-Ok-Some.f (sym (rw c.in-Ok-Some.field-0-is at c.in-Ok-Some.ensures)) (number_in c.barrier_fault-fault.result) c.barrier_fault-fault.ensures c.in-Err-fault.refusal (ap number_in c.in-Err-fault.is)

pub loop-f-smaller : goal.loop-f-smaller
loop-f-smaller c =
    let n = next_inside c.args.points (gaps_in c.args.barred.words) c.args.text.now c.loop-f.placement.words c.loop-f.last c.loop-f.at c.loop-f.line c.loop-f.invariant c.in-Ok-Some.f (sym (rw c.in-Ok-Some.field-0-is at c.in-Ok-Some.ensures)) (number_in c.barrier_fault-fault.result) c.barrier_fault-fault.ensures in
    omega (arith, n.0, n.1)

pub loop-f-preserved : goal.loop-f-preserved
loop-f-preserved c =
    place_on c.args.points (gaps_in c.args.barred.words) c.args.text.now c.loop-f.placement.words c.loop-f.last c.loop-f.at c.loop-f.line c.loop-f.invariant c.in-Ok-Some.f (sym (rw c.in-Ok-Some.field-0-is at c.in-Ok-Some.ensures)) (number_in c.barrier_fault-fault.result) c.barrier_fault-fault.ensures
    c.put-placement.result.words (ap number_in c.in_default.is) (omega arith) c.put-placement.ensures
