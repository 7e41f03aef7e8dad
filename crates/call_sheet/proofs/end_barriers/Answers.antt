use native.Mathlib.Omega.{arith}
use lib.ListN.{length, length-append}
use Prim.Native.Nat.{◌+◌}
use Rattle.std.specs.Slice.Iter.{chunks_exact_rest, chunks_exact_size}
use Rattle.call_sheet.specs.Says.{sheet_in}
use Rattle.call_sheet.proofs.Sets.{sized_is}
use Rattle.call_sheet.proofs.Ending.{Summed, summed_start, summed_on, summed_done}
use Rattle.call_sheet.proofs.end_barriers.Goals as goal

pub loop-row-init : goal.loop-row-init
loop-row-init c =
    let s = c.args.sheet.now in
    let rows = c.chunks_exact-row-items in
    rw c.into_iter-row-iterator.ensures.into_iter_gives
    (summed_start s.processors s.phases s.durations.now (chunks_exact_rest rows.result) (chunks_exact_size rows.result)
    rows.ensures.rest rows.ensures.size)

-- with the row of this turn
added : (c : goal.After-longest-end) →
    let s = c.args.sheet.now in
    Summed s.processors s.phases s.durations.now (length c.loop-row.yielded + 1) (chunks_exact_rest c.next.new.self)
    (chunks_exact_size c.loop-row.row-iterator) (c.loop-row.end + c.longest-end.result)
added c =
    let s = sheet_in c.args.sheet.now in
    let z = sized_is s c.requires in
    let rows = c.loop-row.row-iterator in
    let step = c.in-Some.ensures.steps.1 in
    summed_on s.processors s.phases s.durations z.some_processor z.durations_are (length c.loop-row.yielded)
    (chunks_exact_rest rows) (chunks_exact_size rows) c.loop-row.end c.loop-row.invariant c.in-Some.row.now
    (chunks_exact_rest c.next.new.self) step.0 step.1 c.longest-end.result c.longest-end.ensures.value
    c.longest-end.ensures.upper_bound

pub overflow_add-end : goal.overflow_add-end
overflow_add-end c =
    let z = sized_is (sheet_in c.args.sheet.now) c.requires in
    let t = added c in
    omega (arith, t.low, t.below, z.few_phases)

pub loop-row-preserved : goal.loop-row-preserved
loop-row-preserved c = rw (length-append, c.in-Some.ensures.steps.0) (added c)

pub returns : goal.returns
returns c =
    let s = sheet_in c.args.sheet.now in
    let z = sized_is s c.requires in
    let rows = c.loop-row.row-iterator in
    summed_done s.processors s.phases s.durations z.some_processor z.durations_are (length c.loop-row.yielded)
    (chunks_exact_rest rows) (chunks_exact_size rows) c.loop-row.end c.loop-row.invariant
    c.in-None.ensures.steps.1.0
