-- `ends_in` meets its contract: each turn notes the end of one more loop (`Shortened`).
use Rattle.call_list.proofs.ShortEnds.{Shortened}
use Rattle.call_list.proofs.ends_in.Given as goal

abbrev pub invariant-loop-d : goal.invariant-loop-d
invariant-loop-d l = Shortened l.points l.d l.of
