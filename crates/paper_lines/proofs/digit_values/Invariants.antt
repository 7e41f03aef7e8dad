-- `digit_values` meets its contract. The invariant: the values passed are in the table (`Filling`).
use Rattle.paper_lines.proofs.Values.{Filling}
use Rattle.paper_lines.proofs.digit_values.Given as goal

abbrev pub invariant-loop-v : goal.invariant-loop-v
invariant-loop-v l = Filling l.values l.v
