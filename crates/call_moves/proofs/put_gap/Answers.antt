-- `put_gap` meets its contract: one law for each way past the range of the gap (proofs/Moving).
use mathlib.Core.Path.{sym, ◌∙◌}
use Rattle.call_moves.proofs.Moving.{put_there, put_barred, put_made}
use Rattle.call_moves.proofs.put_gap.Goals as goal

pub returns-then-holds : goal.returns-then-holds
returns-then-holds c =
    let a = c.args in
    put_there a.desk a.gap c.requires c.refused-then-holds.result (sym c.in_default.ensures)
    (sym c.holds.ensures ∙ c.if-holds.true) c.refused-then-holds.ensures

pub returns-then-holds-2 : goal.returns-then-holds-2
returns-then-holds-2 c =
    let a = c.args in
    put_barred a.desk a.gap c.requires c.refused-then-holds-2.result (sym c.in_default.ensures)
    (sym c.holds.ensures ∙ c.if-holds.false)
    (sym (c.barred_of.ensures a.gap) ∙ sym c.holds-2.ensures ∙ c.if-holds-2.true)
    c.refused-then-holds-2.ensures

pub returns : goal.returns
returns c =
    let a = c.args in
    put_made a.desk a.gap c.requires c.accepted.result (sym c.in_default.ensures) c.put-after.result c.with_move.result
    (sym c.holds.ensures ∙ c.if-holds.false)
    (sym (c.barred_of.ensures a.gap) ∙ sym c.holds-2.ensures ∙ c.if-holds-2.false)
    c.put-after.ensures c.with_move.ensures c.accepted.ensures
