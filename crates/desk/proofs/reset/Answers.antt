-- `reset` meets its contract: the desk that it returns is a new one.
use Rattle.desk.specs.Says.{EmptySays}
use Rattle.desk.proofs.reset.Goals as goal

pub returns : goal.returns
returns c =
    let new : EmptySays c.empty-blank.result = c.empty-blank.ensures in
    new
