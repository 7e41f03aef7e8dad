use mathlib.Core.Path.{◌≡◌, sym, ◌∙◌}
use mathlib.Core.Bool.{Bool, true, false}
use native.Mathlib.Omega.{arith}
use Rattle.laws.specs.Entries.{at}
use Rattle.call_missing.proofs.Passing.{next_from, next_less}
use Rattle.call_missing.proofs.Passing.{pass_start, pass_put, pass_by, pass_done}
use Rattle.call_skipped.specs.OneEnd.{is_one_end}
use Rattle.call_skipped.proofs.with_one_end.Goals as goal

pub loop-d-init : goal.loop-d-init
loop-d-init c = pass_start (λ i h. absurd (omega arith)) (next_from c.lowest_from-d.ensures)

pub loop-d-smaller-then-one : goal.loop-d-smaller-then-one
loop-d-smaller-then-one c =
    next_less c.loop-d-test.true
    (next_from c.lowest_from-d-in-loop-d.ensures)

pub loop-d-preserved-then-one : goal.loop-d-preserved-then-one
loop-d-preserved-then-one c =
    let one : Bool = let a = c.args in
    let d = c.loop-d.d in
    is_one_end d (at a.ends.now d) a.s a.t in
    let z : one ≡ true =
    sym c.has_one_end-one.ensures ∙ c.if-one.true in
    pass_put c.loop-d-test.true
    c.loop-d.invariant
    (next_from c.lowest_from-d-in-loop-d.ensures) c.put-split.ensures z

pub loop-d-smaller : goal.loop-d-smaller
loop-d-smaller c = next_less c.loop-d-test.true (next_from c.lowest_from-d-in-loop-d.ensures)

pub loop-d-preserved : goal.loop-d-preserved
loop-d-preserved c =
    let one : Bool = let a = c.args in
    let d = c.loop-d.d in
    is_one_end d (at a.ends.now d) a.s a.t in
    let z : one ≡ false = sym c.has_one_end-one.ensures ∙ c.if-one.false in
    pass_by c.loop-d-test.true
    c.loop-d.invariant (next_from c.lowest_from-d-in-loop-d.ensures) z

pub returns : goal.returns
returns c d h = pass_done c.loop-d-test.false c.loop-d.invariant d h ∙ rw (c.empty-split.ensures d)
