-- `Nest::dependences` meets its contract: the array's first entries, one by one, are the dependences (`deps_in_map`).
use Rattle.paper_nests.proofs.Stored.{deps_in_map}
use Rattle.paper_nests.proofs.Nest.dependences.Goals as goal

pub returns-clause-as_listed : goal.returns-clause-as_listed
returns-clause-as_listed c = deps_in_map c.args.self.now.many c.args.self.now.deps
