-- `after_put` meets its contract: its desk is made by calls (`made_put`).
use Rattle.call_moves.proofs.Made.{made_put}
use Rattle.cases_replies.proofs.after_put.Goals as goal

pub returns : goal.returns
returns c =
    let a = c.args in
    made_put a.desk a.gap c.put_gap.result c.requires c.put_gap.ensures
