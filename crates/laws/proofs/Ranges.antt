-- Between two numbers, as a test and as a fact.
-- Main statements: `in_between`, `between_in`.
use mathlib.Core.Path.{◌≡◌}
use mathlib.Core.Bool.{true}
use Prim.Native.Nat.{ℕ, ◌≤◌}
use lib.Dec.{leb}
use borrow.Author.Tests.{leb-true, le-leb}
use Rattle.laws.specs.Choice.{between}
use Rattle.laws.proofs.Tests.{and_true, and_intro}

pub in_between : (a x b : ℕ) → between a x b ≡ true → (a ≤ x) × (x ≤ b)
in_between a x b h =
    let z = and_true (leb a x) (leb x b) h in
    (leb-true a x z.0, leb-true x b z.1)

pub between_in : (a x b : ℕ) → a ≤ x → x ≤ b → between a x b ≡ true
between_in a x b p q = and_intro (le-leb a x p) (le-leb x b q)
