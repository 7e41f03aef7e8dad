-- `latest_of` meets its contract. The invariant: before g the table is filled (`Latest`).
use Rattle.call_improve.proofs.PlaceSearch.{Latest}
use Rattle.call_improve.proofs.latest_of.Given as goal

abbrev pub invariant-loop-g : goal.invariant-loop-g
invariant-loop-g l = Latest l.p.words l.latest l.g l.last
