-- The search for the last open line, step by step.
-- Main statements: `seek_here`, `seek_on`, `seek_none`.
use mathlib.Core.Path.{◌≡◌, refl}
use Prim.Native.Nat.{ℕ, zero, suc, ◌-◌, ◌≤◌, ◌<◌}
use native.Mathlib.Omega.{arith}
use borrow.Author.Tests.{lt-ltb, le-ltb}
use Rattle.plan_method.specs.Sweep.{seek}

pub seek_here : (need : ℕ → ℕ) (f low a : ℕ) → low < a → need a < f → seek need f low a ≡ a
unfolding seek
seek_here need f low zero h n = absurd (omega arith)
seek_here need f low (suc a) h n = rw (lt-ltb low (suc a) h, lt-ltb (need (suc a)) f n)

pub seek_on : (need : ℕ → ℕ) (f low a : ℕ) → low < a → f ≤ need a → seek need f low (a - 1) ≡ seek need f low a
unfolding seek
seek_on need f low zero h n = absurd (omega arith)
seek_on need f low (suc a) h n =
    let z : suc a - 1 ≡ a = omega arith in
    rw (z, lt-ltb low (suc a) h, le-ltb (need (suc a)) f n)

pub seek_none : (need : ℕ → ℕ) (f low a : ℕ) → a ≤ low → seek need f low a ≡ 0
unfolding seek
seek_none need f low zero h = refl
seek_none need f low (suc a) h = rw (le-ltb low (suc a) h)
