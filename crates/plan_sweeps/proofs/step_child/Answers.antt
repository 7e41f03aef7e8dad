-- `step_child` meets its contract, in each of the three cases of a step over a child (Steps).
use Prim.Native.Nat.{◌≤◌}
use native.Mathlib.Omega.{arith}
use Rattle.plan_sweeps.specs.Listed.{row}
use Rattle.plan_sweeps.proofs.Firsts.{first_given}
use Rattle.plan_sweeps.proofs.Steps.{step_free, step_inner, step_outer}
use Rattle.plan_sweeps.proofs.step_child.Goals.{then-b-p+else-g-gt0, else-b-p}
use Rattle.plan_sweeps.proofs.step_child.Goals as goal

pub returns-then-b-eq0 : goal.returns-then-b-eq0
returns-then-b-eq0 c =
    let i = c.args in
    step_free i.need.now i.left.now i.kids i.l i.p i.c i.f c.last_need-b.result c.last_need-b.ensures
    c.first_or.result c.if-b-eq0.true (first_given c.first_or.ensures)

pub returns-then-g-gt0 : goal.returns-then-g-gt0
returns-then-g-gt0 c =
    let i = c.args in
    step_inner i.need.now i.left.now i.kids i.l i.p i.c i.f c.last_need-b.result c.last_need-b.ensures
    c.if-b-eq0.false c.if-b-p.true c.if-g-gt0.true

pub returns : goal.returns
returns c =
    let i = c.args in
    let b = c.last_need-b.result in
    let without : b ≤ i.p → row i.left.now i.kids b ≤ 0 =
    elim c.if-b-p.branch [
      | then-b-p+else-g-gt0 w ↦ λ _. w.if-g-gt0.false
      | else-b-p w ↦ λ (z : b ≤ i.p). absurd (omega (arith, w.if-b-p.false))
    ] in
    step_outer i.need.now i.left.now i.kids i.l i.p i.c i.f b c.last_need-b.ensures c.first_or-2.result
    c.if-b-eq0.false without (first_given c.first_or-2.ensures)
