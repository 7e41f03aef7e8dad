-- The refusal of a line, by whether it is a good one.
-- Main statements: `bad_first`, `good_first`.
use mathlib.Core.Path.{◌≡◌}
use mathlib.Core.Bool.{Bool, true, false, not}
use Prim.Native.Nat.{ℕ}
use Rattle.laws.specs.Choice.{when, first_of}

-- a line that is not good, and one that is
pub bad_first : (g : Bool) (x : ℕ) → g ≡ false → first_of (when (not g) 1) x ≡ 1
bad_first g x h = rw h

pub good_first : (g : Bool) (x : ℕ) → g ≡ true → first_of (when (not g) 1) x ≡ x
good_first g x h = rw h
