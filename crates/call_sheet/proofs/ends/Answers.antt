-- `ends` meets its contract: where nothing is at fault, the reply is the definition's (`reply_ends`).
use mathlib.Core.Path.{sym, ◌∙◌}
use Rattle.call_sheet.specs.Sheets.{sheet}
use Rattle.call_sheet.proofs.Replies.{reply_ends}
use Rattle.call_sheet.proofs.ends.Goals as goal

pub returns : goal.returns
returns c =
    let i = c.args in
    reply_ends (sheet i.processors i.phases i.durations.now i.waits.now) c.end_waiting.result c.end_barriers.result
    (sym c.is_sized.ensures ∙ c.if-not-is_sized.false) (sym c.are_sets.ensures ∙ c.if-not-are_sets.false)
    c.end_waiting.ensures c.end_barriers.ensures
