use mathlib.Core.Path.{sym, ◌∙◌}
use native.Mathlib.Omega.{arith}
use Rattle.call_sheet.proofs.Checking.{checked_bad, checked_on, checked_done}
use Rattle.call_sheet.proofs.are_sets.Goals as goal

pub returns-then-not-is_set : goal.returns-then-not-is_set
returns-then-not-is_set c =
    let i = c.args in
    checked_bad i.processors i.waits.now c.loop-set.p c.loop-set.set-index c.loop-set.invariant (omega arith)
    (sym c.is_set.ensures ∙ c.if-not-is_set.true)

pub loop-set-preserved : goal.loop-set-preserved
loop-set-preserved c =
    let i = c.args in
    rw c.next-p.ensures
    (checked_on i.processors i.waits.now c.loop-set.p c.loop-set.set-index c.loop-set.invariant (omega arith)
    (sym c.is_set.ensures ∙ c.if-not-is_set.false))

pub returns : goal.returns
returns c =
    let i = c.args in
    checked_done i.processors i.waits.now c.loop-set.p c.loop-set.set-index c.loop-set.invariant (omega arith)
