-- Choices: by cases of the test; the first of some numbers is 0 where all are; a choice is bounded as its parts are.
-- Main statements: `pick_by`, `pick_same`, `first_zero`, `first_set`, `first_none`, `when_zero`,
-- `unless_zero`, `first_le`, `when_le`.
use mathlib.Core.Path.{◌≡◌, refl, sym}
use mathlib.Core.Bool.{Bool, true, false, not}
use Prim.Native.Nat.{ℕ, zero, suc, ◌≤◌}
use native.Mathlib.Omega.{arith}
use Rattle.laws.specs.Choice.{pick, when, first_of}
use Rattle.laws.proofs.Tests.{never}

-- what holds of each side where the test takes it holds of the choice
pub pick_by : {A : Type 0} (P : A → Type 0) {t : Bool} {a b : A} → (t ≡ true → P a) → (t ≡ false → P b) →
    P (pick t a b)
pick_by {A} P {t} {a} {b} = go t
  where
    go : (t : Bool) → (t ≡ true → P a) → (t ≡ false → P b) → P (pick t a b)
    go true f g = f refl
    go false f g = g refl

-- the same choice between things that are alike
pub pick_same : {A : Type 0} (R : A → A → Type 0) {t u : Bool} {a b c d : A} → t ≡ u → (t ≡ true → R a c) →
    (t ≡ false → R b d) → R (pick t a b) (pick u c d)
pick_same {A} R {t} {u} {a} {b} {c} {d} = go t u
  where
    go : (t u : Bool) → t ≡ u → (t ≡ true → R a c) → (t ≡ false → R b d) → R (pick t a b) (pick u c d)
    go true true e f g = f refl
    go true false e f g = never (sym e)
    go false true e f g = never e
    go false false e f g = g refl

-- the first of two numbers is 0 where both are
pub first_zero : (a b : ℕ) → first_of a b ≡ 0 → (a ≡ 0) × (b ≡ 0)
first_zero zero b h = (refl, h)
first_zero (suc a) b h = absurd (omega arith)

-- the first where it is not 0, the second where it is
pub first_set : (a b : ℕ) → (a ≡ 0 → ⊥) → first_of a b ≡ a
first_set zero b h = absurd (h refl)
first_set (suc a) b h = refl

pub first_none : (a b : ℕ) → a ≡ 0 → first_of a b ≡ b
first_none a b h = rw h

-- a number that stands for a test is 0 where the test fails
pub when_zero : (t : Bool) (k : ℕ) → when t (suc k) ≡ 0 → t ≡ false
when_zero true k h = absurd (omega arith)
when_zero false k h = refl

pub unless_zero : (t : Bool) (k : ℕ) → when (not t) (suc k) ≡ 0 → t ≡ true
unless_zero true k h = refl
unless_zero false k h = absurd (omega arith)

-- bounds
pub first_le : (a b m : ℕ) → a ≤ m → b ≤ m → first_of a b ≤ m
first_le zero b m p q = q
first_le (suc a) b m p q = p

pub when_le : (t : Bool) (k m : ℕ) → k ≤ m → when t k ≤ m
when_le true k m h = h
when_le false k m h = omega arith
