-- Each turn is one of the sweep, with its steps (Turns).
use Rattle.argue_trace.proofs.Turns.{Tracing}
use Rattle.argue_trace.proofs.trace.Given as goal

abbrev pub invariant-loop-p : goal.invariant-loop-p
invariant-loop-p l =
    Tracing l.inside.points.now l.inside.own.now l.inside.left.now l.inside.kids l.need l.sets l.claims l.d l.e l.initial.out l.start l.out l.c l.f l.at l.p

abbrev pub decreases-loop-p : goal.decreases-loop-p
decreases-loop-p l = l.p
