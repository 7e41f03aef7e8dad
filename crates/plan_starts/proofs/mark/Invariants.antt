-- `mark` meets its contract. The invariant: the gaps up to p are marked (`Marking`).
use Rattle.plan_starts.proofs.Marking.{Marking}
use Rattle.plan_starts.proofs.mark.Given as goal

abbrev pub invariant-loop-p : goal.invariant-loop-p
invariant-loop-p l =
    let i = l.inside in
    Marking i.points.now i.own.now l.reach l.base i.left.now i.kids l.d l.e l.initial.need l.need l.p
