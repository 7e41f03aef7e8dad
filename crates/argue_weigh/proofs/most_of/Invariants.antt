-- `most_of` meets its contract: the greatest of the entries so far.
use mathlib.Core.Path.{◌≡◌}
use Rattle.laws.specs.Entries.{at}
use Rattle.argue_claims.specs.Arguments.{greatest}
use Rattle.argue_weigh.proofs.most_of.Given as goal

abbrev pub invariant-loop-named : goal.invariant-loop-named
invariant-loop-named l = l.most ≡ greatest (at l.times) l.named-index
