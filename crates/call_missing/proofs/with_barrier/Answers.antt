use mathlib.Core.Path.{◌∙◌}
use Prim.Native.Nat.{ℕ, ◌+◌}
use native.Mathlib.Omega.{arith}
use Rattle.laws.specs.Choice.{between}
use Rattle.laws.specs.Entries.{at}
use Rattle.paper_placements.specs.Words.{LowestIn}
use Rattle.call_missing.proofs.Passing.{next_from, next_less, pass_start, pass_put, pass_by}
use Rattle.call_missing.proofs.Passing.{pass_done, barrier_inside, no_barrier}
use Rattle.call_missing.proofs.with_barrier.Goals as goal

pub loop-d-init : goal.loop-d-init
loop-d-init c = pass_start (λ i h. absurd (omega arith)) (next_from c.lowest_from-d.ensures)

pub loop-d-smaller-then-g-lt-GAPS : goal.loop-d-smaller-then-g-lt-GAPS
loop-d-smaller-then-g-lt-GAPS c =
    next_less c.loop-d-test.true
    (next_from c.lowest_from-d-in-loop-d.ensures)

pub loop-d-preserved-then-g-lt-GAPS : goal.loop-d-preserved-then-g-lt-GAPS
loop-d-preserved-then-g-lt-GAPS c =
    let looked : let a = c.args in
    let d = c.loop-d.d in
    LowestIn a.key.words (λ (g : ℕ). between (d + 1) g (at a.ends.now d)) c.lowest_in-g.result = c.lowest_in-g.ensures in
    let d = c.loop-d.d in
    pass_put c.loop-d-test.true c.loop-d.invariant
    (next_from c.lowest_from-d-in-loop-d.ensures) c.put-loops.ensures
    (barrier_inside d (at c.args.ends.now d) (looked) (omega arith))

pub loop-d-smaller : goal.loop-d-smaller
loop-d-smaller c = next_less c.loop-d-test.true (next_from c.lowest_from-d-in-loop-d.ensures)

pub loop-d-preserved : goal.loop-d-preserved
loop-d-preserved c =
    let looked : let a = c.args in
    let d = c.loop-d.d in
    LowestIn a.key.words (λ (g : ℕ). between (d + 1) g (at a.ends.now d)) c.lowest_in-g.result = c.lowest_in-g.ensures in
    let d = c.loop-d.d in
    pass_by c.loop-d-test.true c.loop-d.invariant
    (next_from c.lowest_from-d-in-loop-d.ensures)
    (no_barrier d (at c.args.ends.now d) (looked) (omega arith))

pub returns : goal.returns
returns c d h = pass_done c.loop-d-test.false c.loop-d.invariant d h ∙ rw (c.empty-loops.ensures d)
