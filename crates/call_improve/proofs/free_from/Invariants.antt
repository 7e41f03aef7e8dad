-- `free_from` meets its contract. The invariant: every gap passed has a barrier (`AllHeld`).
use Rattle.call_improve.proofs.PlaceSearch.{AllHeld}
use Rattle.call_improve.proofs.free_from.Given as goal

abbrev pub invariant-loop-g : goal.invariant-loop-g
invariant-loop-g l = AllHeld l.p.words l.lo l.count l.g
