-- A point that is no DO, or whose loop has nothing to cut, gives none; else the rows are copied, and the loop gives its
-- claims (Points).
use native.Mathlib.Omega.{arith}
use Rattle.argue_give.proofs.Giving.{gives_none, gives_as, gives_under}
use Rattle.argue_loops.proofs.Points.{point_other, lists_after, placed, point_row, point_room}
use Rattle.argue_loops.proofs.Points.{point_idle, point_heads, point_ground}
use Rattle.argue_loops.proofs.give_point.Goals as goal

pub returns-then-chart-d-ne-DO-clause-gives : goal.returns-then-chart-d-ne-DO-clause-gives
returns-then-chart-d-ne-DO-clause-gives c =
    let a = c.args in
    gives_as (λ T x. point_other a.chart.now.points.now T a.d c.if-chart-d-ne-DO.true) gives_none

pub bounds-tables-base : goal.bounds-tables-base
bounds-tables-base c =
    let p = placed c.requires.give_tables c.args.d c.if-chart-d-ne-DO.false in
    omega (arith, p.room, p.long, c.requires.give_tables.left_room)

pub returns-then-first-eq0-clause-gives : goal.returns-then-first-eq0-clause-gives
returns-then-first-eq0-clause-gives c =
    let w = c.requires.give_tables in
    gives_as (λ T x. point_idle w c.args.d c.if-chart-d-ne-DO.false T x c.if-first-eq0.true) gives_none

pub copy_row-requires : goal.copy_row-requires
copy_row-requires c =
    let w = c.requires.give_tables in
    let p = placed w c.args.d c.if-chart-d-ne-DO.false in
    record {
      e_in_bounds = omega (arith, p.room, w.reach_room);
      e_in_bounds_2 = omega (arith, p.short, c.requires.lists_room.need_room);
      d_lt_e = p.long;
    }

pub copy_row-requires-2 : goal.copy_row-requires-2
copy_row-requires-2 c =
    let w = c.requires.give_tables in
    let p = placed w c.args.d c.if-chart-d-ne-DO.false in
    record {
      e_in_bounds = omega (arith, p.room, w.numbers_room);
      e_in_bounds_2 = omega (arith, p.short, c.requires.lists_room.sets_room);
      d_lt_e = p.long;
    }

pub overflow_sub-inside : goal.overflow_sub-inside
overflow_sub-inside c =
    let p = placed c.requires.give_tables c.args.d c.if-chart-d-ne-DO.false in
    omega (arith, p.low)

pub give_heads-requires : goal.give_heads-requires
give_heads-requires c =
    let w = c.requires.give_tables in
    let d = c.args.d in
    let t = c.if-chart-d-ne-DO.false in
    let s = c.copy_row-2.ensures in
    let n = c.shared_slice_known-1.given in
    record {
      give_room = point_room w d t c.requires.lists_room c.copy_row.auto.xs c.copy_row-2.auto.xs n s.copied s.kept;
      row_room = point_row w d t;
      at_bound = (c.requires.at_bound.0, omega (arith, c.requires.at_bound.1, (placed w d t).short));
    }

pub returns : goal.returns
returns c =
    let w = c.requires.give_tables in
    let r = c.requires.lists_room in
    let d = c.args.d in
    let t = c.if-chart-d-ne-DO.false in
    let a = c.copy_row in
    let b = c.copy_row-2 in
    let g = c.give_heads in
    let k = g.ensures.need_unchanged in
    let n = c.shared_slice_known-1.given in
    let x = point_room w d t r a.auto.xs b.auto.xs n b.ensures.copied b.ensures.kept in
    record {
      gives = gives_as (λ T y. point_heads w d t T y c.if-first-eq0.false)
          (gives_under (λ T y. point_ground w d t T y a.ensures.copied b.ensures.copied) g.ensures.gives);
      lists_room_2 = (
        lists_after r x k.0 k.1 a.auto.xs b.auto.xs g.auto.claims,
        omega (arith, g.ensures.many_bound, (placed w d t).short),
      );
    }
