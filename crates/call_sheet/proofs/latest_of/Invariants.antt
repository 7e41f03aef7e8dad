-- `latest_of` meets its contract. The invariant: the best so far is the latest of the processors below q.
use mathlib.Core.Path.{◌≡◌}
use Rattle.laws.specs.Bits.{bit}
use Rattle.call_sheet.specs.Sheets.{latest}
use Rattle.call_sheet.specs.Says.{time_at}
use Rattle.call_sheet.proofs.latest_of.Given as goal

abbrev pub invariant-loop-q : goal.invariant-loop-q
invariant-loop-q l = l.best ≡ latest (bit l.set) (time_at l.times) l.q
