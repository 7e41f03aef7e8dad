-- `lay` meets its contract. The invariant: the barriers laid so far and those from p on are all (`Laying`).
use Rattle.laws.specs.Entries.{at}
use Rattle.call_textbook.proofs.Cutting.{Laying}
use Rattle.call_textbook.proofs.lay.Given as goal

abbrev pub invariant-loop-p : goal.invariant-loop-p
invariant-loop-p l = Laying (at l.ring.latest.now) l.ring.m l.g l.placement.words l.last l.p
