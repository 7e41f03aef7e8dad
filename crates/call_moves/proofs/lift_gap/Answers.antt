-- `lift_gap` meets its contract: one law for each way past the range of the gap (proofs/Moving).
use mathlib.Core.Path.{sym, ◌∙◌}
use Rattle.call_moves.proofs.Moving.{lift_missing, lift_made}
use Rattle.call_moves.proofs.lift_gap.Goals as goal

pub returns-then-not-holds : goal.returns-then-not-holds
returns-then-not-holds c =
    let a = c.args in
    lift_missing a.desk a.gap c.requires c.refused-then-not-holds.result (sym c.in_default.ensures)
    (sym c.holds.ensures ∙ c.if-not-holds.true) c.refused-then-not-holds.ensures

pub returns : goal.returns
returns c =
    let a = c.args in
    lift_made a.desk a.gap c.requires c.accepted.result (sym c.in_default.ensures) c.lift-after.result c.with_move.result
    (sym c.holds.ensures ∙ c.if-not-holds.false) c.lift-after.ensures c.with_move.ensures c.accepted.ensures
