-- `after_load` meets its contract: its desk is made by calls (`made_load`).
use Rattle.desk.proofs.Made.{made_load}
use Rattle.cases_replies.proofs.after_load.Goals as goal

pub returns : goal.returns
returns c =
    let a = c.args in
    made_load a.desk a.text.now c.load_nest.result c.requires c.load_nest.ensures
