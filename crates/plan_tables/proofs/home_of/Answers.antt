use mathlib.Core.List.{List}
use Prim.Native.Nat.{ℕ, ◌<◌}
use lib.ListN.{length}
use Rattle.plan_tables.specs.Charts.{Points, OwnIs, EndsAre}
use Rattle.plan_tables.proofs.Climbing.{Call, climb_from_do, climb_from_owner, climb_falls}
use Rattle.plan_tables.proofs.Climbing.{climb_on, climb_done}
use Rattle.plan_tables.proofs.home_of.Goals as goal
use Rattle.plan_tables.proofs.home_of.Goals.{then-chart-s-eq-DO, else-chart-s-eq-DO}

-- what the call has
call :
    {ps own ends : List ℕ} {s t : ℕ} → Points ps → OwnIs ps own → EndsAre ps ends → s < t → t < length ps →
    Call ps own ends s t
call p o e f t = record { points = p; owners = o; stops = e; forward = f; there = t }

pub loop-l-init : goal.loop-l-init
loop-l-init c =
    let r = c.requires in
    let a = call r.points r.own_is r.ends_are r.s_lt_t r.t_in_bounds in
    elim c.if-chart-s-eq-DO.branch [
      | then-chart-s-eq-DO w ↦ rw w.l-is (climb_from_do a w.if-chart-s-eq-DO.true)
      | else-chart-s-eq-DO w ↦ rw w.l-is (climb_from_owner a w.if-chart-s-eq-DO.false)
    ]

pub loop-l-smaller : goal.loop-l-smaller
loop-l-smaller c =
    let r = c.requires in
    let a = call r.points r.own_is r.ends_are r.s_lt_t r.t_in_bounds in
    climb_falls a c.loop-l.invariant c.loop-l-test.true

pub loop-l-preserved : goal.loop-l-preserved
loop-l-preserved c =
    let r = c.requires in
    let a = call r.points r.own_is r.ends_are r.s_lt_t r.t_in_bounds in
    climb_on a c.loop-l.invariant c.loop-l-test.true

pub returns : goal.returns
returns c =
    let r = c.requires in
    let a = call r.points r.own_is r.ends_are r.s_lt_t r.t_in_bounds in
    climb_done a c.loop-l.invariant c.loop-l-test.false
