use mathlib.Core.Path.{◌≡◌, refl, sym, ◌∙◌}
use Prim.Native.Nat.{◌+◌, ◌-◌}
use native.Mathlib.Omega.{arith}
use Rattle.laws.specs.Entries.{at}
use Rattle.plan_sweeps.proofs.Seek.{seek_here, seek_on, seek_none}
use Rattle.plan_sweeps.proofs.last_need.Goals as goal

pub loop-before-init : goal.loop-before-init
loop-before-init c = refl

pub returns-then-need-a : goal.returns-then-need-a
returns-then-need-a c =
    let i = c.args in
    let a = c.loop-before.before in
    let here : a - 1 + 1 ≡ a = omega arith in
    rw here (sym (seek_here (at i.need.now) i.f i.low a (omega arith) (rw here at c.if-need-a.true)) ∙ c.loop-before.invariant)

pub loop-before-preserved : goal.loop-before-preserved
loop-before-preserved c =
    let i = c.args in
    let a = c.loop-before.before in
    let here : a - 1 + 1 ≡ a = omega arith in
    seek_on (at i.need.now) i.f i.low a (omega arith) (rw here at c.if-need-a.false) ∙ c.loop-before.invariant

pub returns : goal.returns
returns c =
    let i = c.args in
    sym (seek_none (at i.need.now) i.f i.low c.loop-before.before (omega arith)) ∙ c.loop-before.invariant
