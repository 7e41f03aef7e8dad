-- What a turn keeps, in the walk to the lowest gap without a barrier and in the table of the highest barrier up to each
-- gap.
-- Main definitions: `AllHeld`, `Latest`.
use mathlib.Core.Path.{◌≡◌}
use mathlib.Core.Bool.{true, false}
use mathlib.Core.List.{List}
use Prim.Native.Nat.{ℕ, ◌≤◌, ◌<◌}
use lib.ListN.{length, get_or}
use Rattle.paper_nests.specs.Kinds.{POINTS}
use Rattle.paper_placements.specs.Words.{GAPS, holds}
use Rattle.call_improve.specs.Places.{IsLatest}

-- from lo up to g every gap is held
pub record AllHeld (ws : List ℕ) (lo count g : ℕ) : Type 0 where
  pub low : lo ≤ g
  pub within : g ≤ count
  pub held : (i : ℕ) → lo ≤ i → i < g → holds ws i ≡ true

-- before g the table is filled; `last` is the highest barrier before g
pub record Latest (ws table : List ℕ) (g last : ℕ) : Type 0 where
  pub within : g ≤ GAPS
  pub long : length table ≡ POINTS
  pub told : (i : ℕ) → i < g → IsLatest ws i (get_or table i 0)
  pub low : last ≤ g
  pub held : 0 < last → holds ws last ≡ true
  pub none : (i : ℕ) → last < i → i < g → holds ws i ≡ false
