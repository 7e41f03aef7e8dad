use mathlib.Core.Path.{◌≡◌, refl, sym, ap}
use Prim.Native.Nat.{◌%◌}
use native.Mathlib.Omega.{arith}
use borrow.Author.Rules.{rules}
use Rattle.paper_refusals.specs.Numbers.{number_in}
use Rattle.paper_texts.proofs.Loading.{Turn, begun, deep_fits, at_end, at_refusal}
use Rattle.paper_texts.proofs.Loading.{at_unknown, at_point, at_dependence, at_barred, at_flagged, room_for_point, counted_point}
use Rattle.paper_texts.proofs.Loading.{room_for_dependence, room_for_bar, room_for_flagged, next_inside, on_point}
use Rattle.paper_texts.proofs.Loading.{on_dependence, on_bar, on_flagged}
use Rattle.paper_texts.proofs.read_nest.Goals as goal
use Rattle.paper_texts.proofs.read_nest.Goals.{After-piece_of}

-- a turn that comes to a frame
turn
    : (c : After-piece_of)
    → Turn c.args.text.now c.loop-nest.nest c.loop-nest.ends c.loop-nest.single c.loop-nest.depth c.loop-nest.at
    c.loop-nest.line c.points.result.now c.in-Ok-Some.f c.piece_of.result
turn c =
    record {
      so_far = c.loop-nest.invariant;
      frame_is = sym (rw c.in-Ok-Some.field-0-is at c.in-Ok-Some.ensures);
      points_are = c.points.ensures;
      piece_is = c.piece_of.ensures;
    }

pub loop-nest-init : goal.loop-nest-init
loop-nest-init c =
    begun c.args.text.now c.empty-nest.result _ (omega arith) c.empty-nest.ensures (search rules) (search rules) (search rules) refl

pub returns-in-Ok-None : goal.returns-in-Ok-None
returns-in-Ok-None c =
    at_end c.args.text.now c.loop-nest.nest c.loop-nest.ends c.loop-nest.single c.loop-nest.depth c.loop-nest.at c.loop-nest.line c.loop-nest.invariant c.ended.result (sym (rw c.in-Ok-None.field-0-is at c.in-Ok-None.ensures)) c.ended.ensures

pub returns-in-Err : goal.returns-in-Err
returns-in-Err c =
    at_refusal c.args.text.now c.loop-nest.nest c.loop-nest.ends c.loop-nest.single c.loop-nest.depth c.loop-nest.at c.loop-nest.line c.loop-nest.invariant c.in-Err.refusal (sym c.in-Err.ensures)

pub returns-in-Err-fault : goal.returns-in-Err-fault
returns-in-Err-fault c =
    at_point (turn (goal.at.returns-in-Err-fault c).After-piece_of) _ (number_in c.point_fault-fault.result) c.in-Point.is c.point_fault-fault.ensures c.in-Err-fault.refusal (ap number_in c.in-Err-fault.is)

pub bounds-nest-count : goal.bounds-nest-count
bounds-nest-count c =
    room_for_point (turn (goal.at.bounds-nest-count c).After-piece_of) _ (number_in c.point_fault-fault.result) c.in-Point.is c.point_fault-fault.ensures (ap number_in c.in_default.is)

pub deeper-depth-requires : goal.deeper-depth-requires
deeper-depth-requires c =
    deep_fits c.args.text.now c.loop-nest.nest c.loop-nest.ends c.loop-nest.single c.loop-nest.depth c.loop-nest.at c.loop-nest.line c.loop-nest.invariant

pub points-points-requires : goal.points-points-requires
points-points-requires c =
    counted_point (turn (goal.at.points-points-requires c).After-piece_of) _ (number_in c.point_fault-fault.result) c.in-Point.is c.point_fault-fault.ensures (ap number_in c.in_default.is)

pub ends_of-ends-requires : goal.ends_of-ends-requires
ends_of-ends-requires c =
    let counted = counted_point (turn (goal.at.ends_of-ends-requires c).After-piece_of) _ (number_in c.point_fault-fault.result) c.in-Point.is c.point_fault-fault.ensures (ap number_in c.in_default.is) in
    rw c.points-points.ensures (omega (arith, counted.count_is, counted.count_fits))

pub loop-nest-smaller-then-depth-eq0 : goal.loop-nest-smaller-then-depth-eq0
loop-nest-smaller-then-depth-eq0 c =
    let n = next_inside (turn (goal.at.loop-nest-smaller-then-depth-eq0 c).After-piece_of) in
    omega (arith, n.0, n.1)

pub loop-nest-smaller-else-depth-eq0 : goal.loop-nest-smaller-else-depth-eq0
loop-nest-smaller-else-depth-eq0 c =
    let n = next_inside (turn (goal.at.loop-nest-smaller-else-depth-eq0 c).After-piece_of) in
    omega (arith, n.0, n.1)

pub loop-nest-smaller-in-Dependence : goal.loop-nest-smaller-in-Dependence
loop-nest-smaller-in-Dependence c =
    let n = next_inside (turn (goal.at.loop-nest-smaller-in-Dependence c).After-piece_of) in
    omega (arith, n.0, n.1)

pub loop-nest-smaller-in-Barred : goal.loop-nest-smaller-in-Barred
loop-nest-smaller-in-Barred c =
    let n = next_inside (turn (goal.at.loop-nest-smaller-in-Barred c).After-piece_of) in
    omega (arith, n.0, n.1)

pub loop-nest-smaller : goal.loop-nest-smaller
loop-nest-smaller c =
    let n = next_inside (turn (goal.at.loop-nest-smaller c).After-piece_of) in
    omega (arith, n.0, n.1)

pub loop-nest-preserved-then-depth-eq0 : goal.loop-nest-preserved-then-depth-eq0
loop-nest-preserved-then-depth-eq0 c =
    on_point (turn (goal.at.loop-nest-preserved-then-depth-eq0 c).After-piece_of) _ (number_in c.point_fault-fault.result) c.in-Point.is c.point_fault-fault.ensures
    c.ends_of-ends.result c.is_one_loop-single.result c.deeper-depth.result (ap number_in c.in_default.is) c.deeper-depth.ensures
    (record { long = search rules; has_ends = λ z. rw c.points-points.ensures at c.ends_of-ends.ensures })
    (λ z. rw c.points-points.ensures at c.is_one_loop-single.ensures)

pub loop-nest-preserved-else-depth-eq0 : goal.loop-nest-preserved-else-depth-eq0
loop-nest-preserved-else-depth-eq0 c =
    on_point (turn (goal.at.loop-nest-preserved-else-depth-eq0 c).After-piece_of) _ (number_in c.point_fault-fault.result) c.in-Point.is c.point_fault-fault.ensures
    c.loop-nest.ends c.loop-nest.single c.deeper-depth.result (ap number_in c.in_default.is) c.deeper-depth.ensures
    (record { long = c.loop-nest.invariant.knows.long; has_ends = λ z. absurd (c.if-depth-eq0.false z) })
    (λ z. absurd (c.if-depth-eq0.false z))

pub returns-in-Err-fault-2 : goal.returns-in-Err-fault-2
returns-in-Err-fault-2 c =
    at_dependence (turn (goal.at.returns-in-Err-fault-2 c).After-piece_of) _ (number_in c.dependence_fault-fault.result) c.in-Dependence.is c.dependence_fault-fault.ensures c.in-Err-fault-2.refusal (ap number_in c.in-Err-fault-2.is)

pub bounds-nest-many : goal.bounds-nest-many
bounds-nest-many c =
    room_for_dependence (turn (goal.at.bounds-nest-many c).After-piece_of) _ (number_in c.dependence_fault-fault.result) c.in-Dependence.is c.dependence_fault-fault.ensures (ap number_in c.in_default-fault.is)

pub loop-nest-preserved-in-Dependence : goal.loop-nest-preserved-in-Dependence
loop-nest-preserved-in-Dependence c =
    on_dependence (turn (goal.at.loop-nest-preserved-in-Dependence c).After-piece_of) _ (number_in c.dependence_fault-fault.result) c.in-Dependence.is c.dependence_fault-fault.ensures (ap number_in c.in_default-fault.is)

pub returns-in-Err-fault-3 : goal.returns-in-Err-fault-3
returns-in-Err-fault-3 c =
    at_barred (turn (goal.at.returns-in-Err-fault-3 c).After-piece_of) _ (number_in c.barred_fault-fault.result) c.in-Barred.is c.barred_fault-fault.ensures c.in-Err-fault-3.refusal (ap number_in c.in-Err-fault-3.is)

pub bounds-nest-bars : goal.bounds-nest-bars
bounds-nest-bars c =
    room_for_bar (turn (goal.at.bounds-nest-bars c).After-piece_of) _ (number_in c.barred_fault-fault.result) c.in-Barred.is c.barred_fault-fault.ensures (ap number_in c.in_default-fault-2.is)

pub loop-nest-preserved-in-Barred : goal.loop-nest-preserved-in-Barred
loop-nest-preserved-in-Barred c =
    on_bar (turn (goal.at.loop-nest-preserved-in-Barred c).After-piece_of) _ (number_in c.barred_fault-fault.result) c.in-Barred.is c.barred_fault-fault.ensures (ap number_in c.in_default-fault-2.is)

pub returns-in-Err-fault-4 : goal.returns-in-Err-fault-4
returns-in-Err-fault-4 c =
    at_flagged (turn (goal.at.returns-in-Err-fault-4 c).After-piece_of) (number_in c.point_fault-fault-in-Flagged.result) c.in-Flagged.is c.point_fault-fault-in-Flagged.ensures c.in-Err-fault-4.refusal (ap number_in c.in-Err-fault-4.is)

pub bounds-nest-count-in-Flagged : goal.bounds-nest-count-in-Flagged
bounds-nest-count-in-Flagged c =
    (room_for_flagged (turn (goal.at.bounds-nest-count-in-Flagged c).After-piece_of) (number_in c.point_fault-fault-in-Flagged.result) c.in-Flagged.is c.point_fault-fault-in-Flagged.ensures (ap number_in c.in_default-fault-3.is)).0

pub bounds-nest-flags : goal.bounds-nest-flags
bounds-nest-flags c =
    (room_for_flagged (turn (goal.at.bounds-nest-flags c).After-piece_of) (number_in c.point_fault-fault-in-Flagged.result) c.in-Flagged.is c.point_fault-fault-in-Flagged.ensures (ap number_in c.in_default-fault-3.is)).1

pub overflow_add-depth : goal.overflow_add-depth
overflow_add-depth c =
    let fits = deep_fits c.args.text.now c.loop-nest.nest c.loop-nest.ends c.loop-nest.single c.loop-nest.depth c.loop-nest.at c.loop-nest.line c.loop-nest.invariant in
    omega (arith, fits)

pub loop-nest-preserved : goal.loop-nest-preserved
loop-nest-preserved c =
    let fits = room_for_flagged (turn (goal.at.loop-nest-preserved c).After-piece_of) (number_in c.point_fault-fault-in-Flagged.result) c.in-Flagged.is c.point_fault-fault-in-Flagged.ensures (ap number_in c.in_default-fault-3.is) in
    let byte : c.loop-nest.nest.count % 256 ≡ c.loop-nest.nest.count = omega (arith, fits.0) in
    rw byte (on_flagged (turn (goal.at.loop-nest-preserved c).After-piece_of) (number_in c.point_fault-fault-in-Flagged.result) c.in-Flagged.is c.point_fault-fault-in-Flagged.ensures (ap number_in c.in_default-fault-3.is))

pub returns-in-Unknown : goal.returns-in-Unknown
returns-in-Unknown c =
    at_unknown (turn (goal.at.returns-in-Unknown c).After-piece_of) c.in-Unknown.is
