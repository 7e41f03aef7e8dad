-- `is_set` meets its contract: a set shifted down past all processors is empty exactly if it is below the next power.
use mathlib.Core.Path.{sym, ◌∙◌}
use Rattle.call_sheet.proofs.Checking.{set_with}
use Rattle.call_sheet.proofs.is_set.Goals as goal

pub returns-then-has : goal.returns-then-has
returns-then-has c =
    let i = c.args in
    set_with i.processors i.p i.set (sym c.has.ensures ∙ c.if-has.true)
