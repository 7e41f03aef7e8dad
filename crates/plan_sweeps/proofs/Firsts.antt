-- What `first_or` gives of two numbers.
-- Main statement: `first_given`.
use mathlib.Core.Path.{◌≡◌, ◌∙◌}
use Prim.Native.Nat.{ℕ, zero, suc}
use native.Mathlib.Omega.{arith}
use lib.Dec.{eqb}
use borrow.Author.Tests.{ne_eqb}
use Rattle.laws.specs.Choice.{first_of}
use Rattle.plan_sweeps.specs.Firsts.{FirstOr}

pub first_given : {a b r : ℕ} → FirstOr eqb (λ z. z ≡ 0) a b r → r ≡ first_of a b
first_given {a = zero} h = rw h.zero_is at h.given_is
first_given {a = suc a} h = h.given_is ∙ rw (h.zero_is, ne_eqb (suc a) 0 (λ e. absurd (omega arith)))
