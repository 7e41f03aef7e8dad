-- `count_cuts` meets its contract. The invariant: the cuts so far and those from p on are all (`Counting`).
use Rattle.laws.specs.Entries.{at}
use Rattle.call_textbook.proofs.Cutting.{Counting}
use Rattle.call_textbook.proofs.count_cuts.Given as goal

abbrev pub invariant-loop-p : goal.invariant-loop-p
invariant-loop-p l = Counting (at l.ring.latest.now) l.ring.m l.g l.cuts l.last l.p
