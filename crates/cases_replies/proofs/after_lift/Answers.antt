-- `after_lift` meets its contract: its desk is made by calls (`made_lift`).
use Rattle.call_moves.proofs.Made.{made_lift}
use Rattle.cases_replies.proofs.after_lift.Goals as goal

pub returns : goal.returns
returns c =
    let a = c.args in
    made_lift a.desk a.gap c.lift_gap.result c.requires c.lift_gap.ensures
