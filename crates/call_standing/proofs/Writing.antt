-- A table written as bytes, entry by entry.
-- Main statements: `Written`, `write_none`, `write_next`.
use mathlib.Core.Path.{◌≡◌, ◌∙◌}
use mathlib.Core.List.{List}
use Prim.Native.Nat.{ℕ, ◌+◌, ◌<◌}
use native.Mathlib.Omega.{arith}
use lib.ListN.{length, set, length-set}
use Rattle.laws.specs.Entries.{at}
use Rattle.laws.proofs.Stores.{stored}
use Rattle.paper_nests.specs.Kinds.{POINTS}

-- the entries before i are written
pub record Written (table : List ℕ) (i : ℕ) (bytes : List ℕ) : Type 0 where
  pub long : length bytes ≡ POINTS
  pub same : (j : ℕ) → j < i → at bytes j ≡ at table j

pub write_none : (table bytes : List ℕ) → length bytes ≡ POINTS → Written table 0 bytes
write_none table bytes l = record { long = l; same = λ j h. absurd (omega arith) }

pub write_next
    : {table : List ℕ} {i : ℕ} {bytes : List ℕ}
    → Written table i bytes
    → i < POINTS
    → Written table (i + 1) (set bytes i (at table i))
write_next {table} {i} {bytes} w l =
    record {
      long = length-set bytes i (at table i) ∙ w.long;
      same =
          λ j h.
          stored bytes i (at table i) j (at table j) (omega (arith, w.long)) (λ e. rw e)
          (λ n. w.same j (omega arith));
    }
