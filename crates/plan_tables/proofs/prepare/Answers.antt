-- `prepare` meets its contract: what `chart_loops`, `collect` and `narrow` promise is all that is asked
-- (`all_prepared`).
use native.Mathlib.Omega.{arith}
use Rattle.plan_tables.proofs.Preparing.{all_prepared}
use Rattle.plan_tables.proofs.prepare.Goals as goal

pub collect-requires : goal.collect-requires
collect-requires c =
    record {
      points = rw c.points-points.ensures c.requires.points;
      charted = c.chart_loops.ensures;
      chart_room = record {
        own_room = omega (arith, c.chart_loops.auto.own, c.requires.chart_room.own_room);
        ends_room = omega (arith, c.chart_loops.auto.ends, c.requires.chart_room.ends_room);
        heights_room = omega (arith, c.chart_loops.auto.heights, c.requires.chart_room.heights_room);
      };
      lines_room = c.requires.lines_room;
      counted = c.requires.counted;
      all_fit = rw c.points-points.ensures c.requires.all_fit;
      blank = rw c.points-points.ensures c.requires.blank;
    }

pub narrow-requires : goal.narrow-requires
narrow-requires c =
    record {
      points = rw c.points-points.ensures c.requires.points;
      ends_are = c.chart_loops.ensures.ends_are;
      heights_are = c.chart_loops.ensures.heights_are;
      in_bounds = omega (arith, c.chart_loops.auto.ends, c.requires.chart_room.ends_room);
      in_bounds_2 = omega (arith, c.chart_loops.auto.heights, c.requires.chart_room.heights_room);
      in_bounds_3 = omega (arith, c.collect.auto.back, c.requires.lines_room.limit_room);
    }

pub returns : goal.returns
returns c =
    rw (← c.points-points.ensures)
    (all_prepared c.chart_loops.ensures c.collect.ensures
    (rw c.points-points.ensures c.requires.all_fit) c.narrow.ensures)
