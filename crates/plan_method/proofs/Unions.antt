-- Placements of one gap, and two placements together.
-- Main statements: `only_is`, `only_self`, `also_by`, `also_left`, `also_right`.
use mathlib.Core.Path.{◌≡◌, refl}
use mathlib.Core.Bool.{Bool, true, false}
use mathlib.Core.Logic.{⊎_elim}
use Prim.Native.Nat.{ℕ}
use borrow.Author.Tests.{eqb-true, eq-eqb}
use Rattle.laws.proofs.Tests.{false_by, or-true}
use Rattle.laws.proofs.Connectives.{or_off}
use Rattle.plan_method.specs.Sweep.{only, also}

pub only_is : (p g : ℕ) → only p g ≡ true → g ≡ p
only_is p g h = eqb-true g p h

pub only_self : (p : ℕ) → only p p ≡ true
only_self p = eq-eqb p p refl

-- a gap of x or of w
pub also_by : {A : Type 0} (x w : ℕ → Bool) (g : ℕ) → also x w g ≡ true → (x g ≡ true → A) → (w g ≡ true → A) → A
also_by x w g h a b = ⊎_elim a b (or-true (x g) (w g) h)

-- of two placements together: at a gap that the first lacks it is the second, and the other way round
pub also_right : (x w : ℕ → Bool) (g : ℕ) → (x g ≡ true → ⊥) → also x w g ≡ w g
also_right x w g h =
    let z : x g ≡ false = false_by h in
    rw z

pub also_left : (x w : ℕ → Bool) (g : ℕ) → (w g ≡ true → ⊥) → also x w g ≡ x g
also_left x w g h =
    let z : w g ≡ false = false_by h in
    rw z (or_off (x g))
