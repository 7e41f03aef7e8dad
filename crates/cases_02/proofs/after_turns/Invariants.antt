-- `after_turns` meets its contract: each move's desk is made by calls.
use Rattle.desk.specs.Desks.{IsMade}
use Rattle.cases_02.proofs.after_turns.Given as goal

abbrev pub invariant-loop : goal.invariant-loop
invariant-loop l = IsMade l.d
