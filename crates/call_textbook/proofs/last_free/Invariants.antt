-- `last_free` meets its contract. The invariant: the entries of the places below p are there (`Freed`).
use Rattle.paper_placements.specs.Words.{gaps_in}
use Rattle.call_textbook.proofs.Tables.{Freed}
use Rattle.call_textbook.proofs.last_free.Given as goal

abbrev pub invariant-loop-p : goal.invariant-loop-p
invariant-loop-p l = Freed (gaps_in l.barred.words) l.m l.free l.p
