-- `turned` meets its contract: the desk of a Put or a Lift is made by calls (`made_put`).
use Rattle.call_moves.proofs.Made.{made_put}
use Rattle.cases_02.proofs.turned.Goals as goal

pub returns-then-moved-eq0 : goal.returns-then-moved-eq0
returns-then-moved-eq0 c =
    let a = c.args in
    made_put a.desk a.gap c.put_gap-moved.result c.requires c.put_gap-moved.ensures
