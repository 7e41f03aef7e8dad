-- `end_waiting` meets its contract. The invariant: the times of phase k are known, and there is room for the next.
use Rattle.call_sheet.specs.Says.{sheet_in}
use Rattle.call_sheet.proofs.Ending.{Waited}
use Rattle.call_sheet.proofs.end_waiting.Given as goal

abbrev pub invariant-loop-k : goal.invariant-loop-k
invariant-loop-k l = Waited (sheet_in l.sheet) l.k l.earlier l.times
