-- `after_backs` meets its contract: each take-back's desk is made by calls.
use Rattle.desk.specs.Desks.{IsMade}
use Rattle.cases_02.proofs.after_backs.Given as goal

abbrev pub invariant-loop : goal.invariant-loop
invariant-loop l = IsMade l.d
