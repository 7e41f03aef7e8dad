-- `first_struck` meets its contract: the gaps so far have their numbers (`Filling`).
use Rattle.argue_judge.proofs.Starts.{Filling}
use Rattle.argue_judge.proofs.first_struck.Given as goal

abbrev pub invariant-loop-g : goal.invariant-loop-g
invariant-loop-g l = Filling l.barred.words l.owners l.counts l.g l.struck
