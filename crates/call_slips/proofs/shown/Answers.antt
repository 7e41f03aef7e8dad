-- `shown` meets its contract: the number, or none.
use mathlib.Core.Path.{◌≡◌, refl, ◌∙◌}
use Prim.Native.Nat.{ℕ}
use Rattle.std.specs.Option.{unwrap_or}
use Rattle.std.proofs.Common.{Option, Some, None}
use Rattle.paper_placements.specs.Answers.{place_of}
use Rattle.call_slips.specs.Texts.{NONE, shown}
use Rattle.call_slips.proofs.shown.Goals as goal

shown_or : (first : Option ℕ) → unwrap_or first NONE ≡ shown (place_of first)
shown_or (Some i) = refl
shown_or None = refl

pub returns : goal.returns
returns c = c.unwrap_or.ensures ∙ shown_or c.args.first
