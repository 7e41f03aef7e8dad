-- `after_back` meets its contract: its desk is made by calls (`made_back`).
use Rattle.call_moves.proofs.Made.{made_back}
use Rattle.cases_replies.proofs.after_back.Goals as goal

pub returns : goal.returns
returns c = made_back c.args.desk c.take_back.result c.requires c.take_back.ensures
