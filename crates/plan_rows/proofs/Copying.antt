-- Part of a row copied.
-- Main definition: `Copying`.
use mathlib.Core.Path.{◌≡◌}
use mathlib.Core.List.{List}
use Prim.Native.Nat.{ℕ, ◌≤◌}
use lib.ListN.{length}
use Rattle.plan_starts.specs.Grounds.{Kept}
use Rattle.plan_rows.specs.Made.{Copied}

-- the entries of d + 1 … p are copied
pub record Copying (from : List ℕ) (base d e : ℕ) (xs₀ xs : List ℕ) (p : ℕ) : Type 0 where
  pub from_do : d ≤ p
  pub high : p ≤ e
  pub size : length xs ≡ length xs₀
  pub copied : Copied from base d p xs
  pub kept : Kept xs₀ xs d e
