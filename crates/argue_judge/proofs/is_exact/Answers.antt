-- `is_exact` meets its contract: the product is the definition's sum.
use mathlib.Core.Path.{sym, ◌∙◌}
use Rattle.argue_judge.specs.Ends.{low_by}
use Rattle.argue_judge.proofs.Ends.{exact_low}
use Rattle.argue_judge.proofs.is_exact.Goals as goal

pub returns-then-is_low : goal.returns-then-is_low
returns-then-is_low c =
    let k = c.args.claim in
    exact_low (low_by k.a k.b) c.args.c c.args.most c.args.count (sym c.is_low.ensures ∙ c.if-is_low.true)
