-- `take_back` meets its contract: without a move to take back it is 13, and the latest move is there to be undone
-- (proofs/Backs).
use Rattle.std.proofs.lemmas.Bool.{not-false}
use Rattle.call_moves.proofs.Backs.{latest_holds, back_none}
use Rattle.call_moves.proofs.take_back.Goals as goal

pub returns-then-desk-eq0 : goal.returns-then-desk-eq0
returns-then-desk-eq0 c =
    back_none c.args.desk c.requires c.refused-then-desk-eq0.result (not-false _ c.if-not-desk.false)
    c.if-desk-eq0.true c.refused-then-desk-eq0.ensures

pub undone-after-requires-clause-gap_value : goal.undone-after-requires-clause-gap_value
undone-after-requires-clause-gap_value c = latest_holds c.args.desk c.requires c.latest.result c.latest.ensures
