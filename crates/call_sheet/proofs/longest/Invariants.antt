-- `longest` meets its contract. The invariant: the best so far is the longest of the durations before.
use mathlib.Core.Path.{◌≡◌}
use Prim.Native.Nat.{◌≤◌}
use Rattle.call_sheet.specs.Says.{LONGEST, time_at}
use Rattle.call_sheet.specs.Sheets.{anyone, latest}
use Rattle.call_sheet.proofs.longest.Given as goal

abbrev pub invariant-loop-duration : goal.invariant-loop-duration
invariant-loop-duration l = (l.best ≡ latest anyone (time_at l.row) l.duration-index) × (l.best ≤ LONGEST)
