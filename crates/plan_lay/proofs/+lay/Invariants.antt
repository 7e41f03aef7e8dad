-- `lay` meets its contract; the height falls at each call. The invariant of its loop: the placement holds what the
-- sweep has laid so far (`Laying`). At its end that is what the loop lays (`done`).
use Rattle.plan_lay.proofs.Turns.{Laying}
use Rattle.plan_lay.proofs.+lay.Given as goal

abbrev pub invariant-loop-p : goal.invariant-loop-p
invariant-loop-p l =
    Laying l.chart.points.now l.chart.own.now l.chart.ends.now l.lines.reach.now l.lines.limit.now l.rows.left.now
    l.rows.choice.now l.d l.h l.initial.need l.need l.initial.k.words l.k.words l.c l.f l.p

abbrev pub decreases-loop-p : goal.decreases-loop-p
decreases-loop-p l = l.p

abbrev pub decreases-lay : goal.decreases-lay
decreases-lay l = l.h
