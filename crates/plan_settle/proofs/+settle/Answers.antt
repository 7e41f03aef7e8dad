use native.Mathlib.Omega.{arith}
use Rattle.plan_sweeps.proofs.Firsts.{first_given}
use Rattle.plan_settle.proofs.Calls.{called}
use Rattle.plan_settle.proofs.Lists.{lent_all, lent_on, lent_room}
use Rattle.plan_settle.proofs.Turns.{begin, on_plain, child_asked, child_long, child_short, on_child}
use Rattle.plan_settle.proofs.Own.{done}
use Rattle.plan_settle.proofs.Quiet.{quiet_done}
use Rattle.plan_settle.proofs.Grounded.{row_room}
use Rattle.plan_settle.proofs.+settle.Goals as goal

pub returns-then-is_quiet : goal.returns-then-is_quiet
returns-then-is_quiet t c =
    let r = c.requires in
    let a = called r.charts r.room r.d_value r.has_height r.unset r.unset_2 in
    quiet_done a (c.is_quiet.ensures.none c.if-is_quiet.true)

pub overflow_sub-kids : goal.overflow_sub-kids
overflow_sub-kids t c =
    let r = c.requires in
    let a = called r.charts r.room r.d_value r.has_height r.unset r.unset_2 in
    omega arith

pub loop-i-init : goal.loop-i-init
loop-i-init t c =
    let r = c.requires in
    let a = called r.charts r.room r.d_value r.has_height r.unset r.unset_2 in
    (begin a, lent_all)

pub overflow_sub-h : goal.overflow_sub-h
overflow_sub-h t c =
    let r = c.requires in
    let a = called r.charts r.room r.d_value r.has_height r.unset r.unset_2 in
    omega arith

pub settle-requires : goal.settle-requires
settle-requires t c =
    let r = c.requires in
    let a = called r.charts r.room r.d_value r.has_height r.unset r.unset_2 in (
      omega (arith, a.low),
      (
        lent_room c.loop-i.invariant.1 r.lists_room,
        child_asked a c.loop-i.invariant.0 c.loop-i-test.true c.if-chart-i-eq-DO.true,
      ),
    )

pub overflow_add-i-then-chart-i-eq-DO : goal.overflow_add-i-then-chart-i-eq-DO
overflow_add-i-then-chart-i-eq-DO t c =
    let r = c.requires in
    let a = called r.charts r.room r.d_value r.has_height r.unset r.unset_2 in
    omega (arith, child_short a c.loop-i.invariant.0 c.loop-i-test.true c.if-chart-i-eq-DO.true)

pub loop-i-smaller-then-chart-i-eq-DO : goal.loop-i-smaller-then-chart-i-eq-DO
loop-i-smaller-then-chart-i-eq-DO t c =
    let r = c.requires in
    let a = called r.charts r.room r.d_value r.has_height r.unset r.unset_2 in
    let more = c.loop-i-test.true in
    omega (arith, child_long a c.loop-i.invariant.0 more c.if-chart-i-eq-DO.true, more)

pub loop-i-preserved-then-chart-i-eq-DO : goal.loop-i-preserved-then-chart-i-eq-DO
loop-i-preserved-then-chart-i-eq-DO t c =
    let r = c.requires in
    let a = called r.charts r.room r.d_value r.has_height r.unset r.unset_2 in (
      on_child a c.loop-i.invariant.0 c.loop-i-test.true c.if-chart-i-eq-DO.true c.settle.auto.left
          c.settle.auto.choice c.settle.ensures (first_given c.first_or-some.ensures),
      lent_on c.loop-i.invariant.1 record {
        need_length = c.settle.auto.need;
        cs_length = c.settle.auto.cs;
        fs_length = c.settle.auto.fs;
        link_length = c.settle.auto.link;
      },
    )

pub loop-i-preserved : goal.loop-i-preserved
loop-i-preserved t c =
    let r = c.requires in
    let a = called r.charts r.room r.d_value r.has_height r.unset r.unset_2 in
    (on_plain a c.loop-i.invariant.0 c.loop-i-test.true c.if-chart-i-eq-DO.false, c.loop-i.invariant.1)

pub make_row-requires-clause-row_room : goal.make_row-requires-clause-row_room
make_row-requires-clause-row_room t c =
    let r = c.requires in
    let a = called r.charts r.room r.d_value r.has_height r.unset r.unset_2 in
    row_room a c.loop-i.invariant.0 (omega (arith, c.loop-i-test))

pub returns : goal.returns
returns t c =
    let r = c.requires in
    let a = called r.charts r.room r.d_value r.has_height r.unset r.unset_2 in
    done a c.loop-i.invariant.0 (omega (arith, c.loop-i-test)) c.make_row.ensures
