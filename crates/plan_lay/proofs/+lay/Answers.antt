use mathlib.Core.Path.{◌≡◌, ap}
use mathlib.Core.List.{List}
use Prim.Native.Nat.{ℕ, min, ◌-◌, ◌≤◌}
use native.Mathlib.Omega.{arith}
use lib.ListN.{length, set, length-set}
use Rattle.laws.specs.Entries.{at}
use Rattle.plan_rows.specs.Made.{Copied}
use Rattle.plan_lay.proofs.Calls.{called, picked}
use Rattle.plan_lay.proofs.Turns.{begin, on_put, on_skip, child_asked, on_child}
use Rattle.plan_lay.proofs.Whole.{Lowered, blank, done}
use Rattle.plan_lay.proofs.+lay.Goals as goal

-- the copied row, lowered at the chosen suffix; what the loops inside leave of it is as long
lowered
    : (need copy : List ℕ) {reach : List ℕ} {base d e last m : ℕ}
    → 256 ≤ length need
    → length copy ≡ length need
    → Copied reach base d e copy
    → m ≡ min (at copy last) e
    → Lowered reach base d e last (set copy last m)
lowered need copy {last = last} room sized copied m_is =
    record { copy = copy; copied = copied; size = omega arith; need_is = ap (λ (v : ℕ). set copy last v) m_is }

still
    : (need copy now : List ℕ) (last m : ℕ)
    → 256 ≤ length need
    → length copy ≡ length need
    → length now ≡ length (set copy last m)
    → 256 ≤ length now
still need copy now last m room sized same = omega (arith, length-set copy last m)

pub returns-then-rows-base-eq0-clause-lay_says : goal.returns-then-rows-base-eq0-clause-lay_says
returns-then-rows-base-eq0-clause-lay_says t c =
    let r = c.requires in
    let a = called r.charts r.lay_room r.d_value r.has_height r.d_lt_q r.q_bound r.choices in
    blank a c.args.key.words c.if-rows-base-eq0.true

pub copy_row-requires : goal.copy_row-requires
copy_row-requires t c =
    let r = c.requires in
    let a = called r.charts r.lay_room r.d_value r.has_height r.d_lt_q r.q_bound r.choices in
    record {
      e_in_bounds = omega arith;
      e_in_bounds_2 = omega (arith, c.requires.in_bounds, a.short, a.charts.few);
      d_lt_e = omega (arith, a.long);
    }

pub bounds-need-last : goal.bounds-need-last
bounds-need-last t c =
    let r = c.requires in
    let a = called r.charts r.lay_room r.d_value r.has_height r.d_lt_q r.q_bound r.choices in
    omega (arith, picked a c.if-rows-base-eq0.false, r.in_bounds, a.short, a.charts.few, c.copy_row.auto.xs)

pub bounds-need-last-2 : goal.bounds-need-last-2
bounds-need-last-2 t c =
    let r = c.requires in
    let a = called r.charts r.lay_room r.d_value r.has_height r.d_lt_q r.q_bound r.choices in
    omega (arith, picked a c.if-rows-base-eq0.false, r.in_bounds, a.short, a.charts.few, c.copy_row.auto.xs)

pub loop-p-init : goal.loop-p-init
loop-p-init t c =
    let r = c.requires in
    let a = called r.charts r.lay_room r.d_value r.has_height r.d_lt_q r.q_bound r.choices in
    begin a

pub overflow_sub-base : goal.overflow_sub-base
overflow_sub-base t c =
    let r = c.requires in
    let a = called r.charts r.lay_room r.d_value r.has_height r.d_lt_q r.q_bound r.choices in
    omega arith

pub step_child-s-requires : goal.step_child-s-requires
step_child-s-requires t c =
    let r = c.requires in
    let a = called r.charts r.lay_room r.d_value r.has_height r.d_lt_q r.q_bound r.choices in
    let room = still _ _ _ _ _ r.in_bounds c.copy_row.auto.xs c.loop-p.invariant.shared.size in
    record {
      p_in_bounds = omega arith;
      p_in_bounds_2 = omega arith;
      l_le_p = a.charts.own_low (c.loop-p.p - 1);
      c_in_bounds = omega (arith, c.loop-p.invariant.small);
    }

pub overflow_sub-h : goal.overflow_sub-h
overflow_sub-h t c =
    let r = c.requires in
    let a = called r.charts r.lay_room r.d_value r.has_height r.d_lt_q r.q_bound r.choices in
    omega arith

pub lay-k-requires : goal.lay-k-requires
lay-k-requires t c =
    let r = c.requires in
    let a = called r.charts r.lay_room r.d_value r.has_height r.d_lt_q r.q_bound r.choices in
    let room = still _ _ _ _ _ r.in_bounds c.copy_row.auto.xs c.loop-p.invariant.shared.size in (
      omega (arith),
      (
        room,
        child_asked a c.loop-p.invariant c.loop-p-test.true c.if-chart-before-eq-ENDDO.true
            c.step_child-s.ensures,
      ),
    )

pub loop-p-preserved-then-chart-before-eq-ENDDO : goal.loop-p-preserved-then-chart-before-eq-ENDDO
loop-p-preserved-then-chart-before-eq-ENDDO t c =
    let r = c.requires in
    let a = called r.charts r.lay_room r.d_value r.has_height r.d_lt_q r.q_bound r.choices in
    on_child a c.loop-p.invariant c.loop-p-test.true c.if-chart-before-eq-ENDDO.true
    c.step_child-s.ensures c.put_where-more.result.words c.put_where-more.ensures c.lay-k.ensures.lay_says c.lay-k.auto.need
    c.lay-k.ensures.kept

pub bounds-need-p : goal.bounds-need-p
bounds-need-p t c =
    let r = c.requires in
    let a = called r.charts r.lay_room r.d_value r.has_height r.d_lt_q r.q_bound r.choices in
    let room = still _ _ _ _ _ r.in_bounds c.copy_row.auto.xs c.loop-p.invariant.shared.size in
    omega (arith, room, c.loop-p.invariant.high, a.short, a.charts.few)

pub loop-p-preserved-then-need-p : goal.loop-p-preserved-then-need-p
loop-p-preserved-then-need-p t c =
    let r = c.requires in
    let a = called r.charts r.lay_room r.d_value r.has_height r.d_lt_q r.q_bound r.choices in
    on_put a c.loop-p.invariant c.loop-p-test.true c.if-chart-before-eq-ENDDO.false c.if-need-p.true
    c.put-k.ensures

pub loop-p-preserved : goal.loop-p-preserved
loop-p-preserved t c =
    let r = c.requires in
    let a = called r.charts r.lay_room r.d_value r.has_height r.d_lt_q r.q_bound r.choices in
    on_skip a c.loop-p.invariant c.loop-p-test.true c.if-chart-before-eq-ENDDO.false c.if-need-p.false

pub bounds-lines-base : goal.bounds-lines-base
bounds-lines-base t c =
    let r = c.requires in
    let a = called r.charts r.lay_room r.d_value r.has_height r.d_lt_q r.q_bound r.choices in
    omega (arith, picked a c.if-rows-base-eq0.false)

pub put_where-requires : goal.put_where-requires
put_where-requires t c =
    let r = c.requires in
    let a = called r.charts r.lay_room r.d_value r.has_height r.d_lt_q r.q_bound r.choices in
    omega arith

pub returns-clause-lay_says : goal.returns-clause-lay_says
returns-clause-lay_says t c =
    let r = c.requires in
    let a = called r.charts r.lay_room r.d_value r.has_height r.d_lt_q r.q_bound r.choices in
    let copy = c.copy_row.new.xs in
    done a c.put_where.result.words c.if-rows-base-eq0.false
    (lowered _ copy r.in_bounds c.copy_row.auto.xs c.copy_row.ensures.copied c.min.ensures) c.loop-p.invariant
    (omega (arith, c.loop-p-test)) c.put_where.ensures
