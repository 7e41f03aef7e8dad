-- No refusal has the number of nothing refused.
-- Main statement: `never_zero`.
use mathlib.Core.Path.{◌≡◌}
use native.Mathlib.Omega.{arith}
use Rattle.paper_refusals.specs.declared.Refusal.{Refusal}
use Rattle.paper_refusals.specs.declared.Refusal.TheVariants as R
use Rattle.paper_refusals.specs.Numbers.{number_of}

pub never_zero : (r : Refusal) → number_of r ≡ 0 → ⊥
never_zero R.NoFrame h = omega (arith, h)
never_zero R.WrongKind h = omega (arith, h)
never_zero R.LatePoint h = omega (arith, h)
never_zero R.Misplaced h = omega (arith, h)
never_zero R.TooMany h = omega (arith, h)
never_zero R.WrongPoint h = omega (arith, h)
never_zero R.WrongOrder h = omega (arith, h)
never_zero R.WrongGap h = omega (arith, h)
never_zero R.ShortBuffer h = omega (arith, h)
never_zero R.NoNest h = omega (arith, h)
never_zero R.NoKey h = omega (arith, h)
never_zero R.NothingMoved h = omega (arith, h)
never_zero R.NoMoveLeft h = omega (arith, h)
never_zero R.NotOneLoop h = omega (arith, h)
never_zero R.Blocked h = omega (arith, h)
never_zero R.BarredGap h = omega (arith, h)
never_zero R.WrongTurns h = omega (arith, h)
never_zero R.TooLarge h = omega (arith, h)
never_zero R.WrongSize h = omega (arith, h)
never_zero R.WrongSet h = omega (arith, h)
never_zero R.Unheld h = omega (arith, h)
