-- Entries of a list after a store.
-- Main statements: `entry_here`, `entry_elsewhere`, `entries_more`.
use mathlib.Core.Path.{◌≡◌}
use mathlib.Core.List.{List}
use mathlib.Core.Logic.{⊎_elim}
use Prim.Native.Nat.{ℕ, ◌+◌, ◌<◌}
use native.Mathlib.Omega.{arith}
use lib.ListN.{length, set}
use lib.Seq.{get_or-set_same, get_or-set_other}
use Rattle.laws.specs.Entries.{at}
use Rattle.laws.proofs.Tests.{eq_or}

module _ (xs : List ℕ) (i v : ℕ) where
  pub entry_here : i < length xs → at (set xs i v) i ≡ v
  entry_here h = get_or-set_same xs i v 0 h

  pub entry_elsewhere : (j : ℕ) → (j ≡ i → ⊥) → at (set xs i v) j ≡ at xs j
  entry_elsewhere j h = get_or-set_other xs i j v 0 h

  -- what holds of the entries below i, and of v, holds of those below i + 1
  pub entries_more
      : (P : ℕ → ℕ → Type 0) → i < length xs → ((k : ℕ) → k < i → P k (at xs k)) → P i v → (k : ℕ) → k < i + 1
      → P k (at (set xs i v) k)
  entries_more P h below here k l = ⊎_elim
      (λ (e : k ≡ i). rw (e, entry_here h) here)
      (λ (e : k ≡ i → ⊥). rw (entry_elsewhere k e) (below k (omega arith)))
      (eq_or k i)
