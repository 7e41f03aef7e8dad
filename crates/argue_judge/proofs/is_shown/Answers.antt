-- `is_shown` meets its contract: the product is the definition's sum.
use mathlib.Core.Path.{sym, ◌∙◌}
use Rattle.argue_judge.specs.Ends.{low_by}
use Rattle.argue_judge.proofs.Ends.{shown_low, shown_more}
use Rattle.argue_judge.proofs.is_shown.Goals as goal

pub returns-then-is_low : goal.returns-then-is_low
returns-then-is_low c =
    let k = c.args.claim in
    shown_low (low_by k.a k.b) c.args.c c.args.most c.args.count (sym c.is_low.ensures ∙ c.if-is_low.true)

pub returns-else-is_low : goal.returns-else-is_low
returns-else-is_low c =
    let k = c.args.claim in
    shown_more (low_by k.a k.b) c.args.c c.args.most c.args.count (sym c.is_low.ensures ∙ c.if-is_low.false)
