-- The search for the last open line is determined by what it says, so that a search may go on where an earlier one
-- ended.
-- Main statements: `sought_one`, `seek_found`, `seek_skip`, `seek_late`, `seek_alike`.
use mathlib.Core.Path.{◌≡◌, sym}
use mathlib.Core.Logic.{⊎_elim}
use Prim.Native.Nat.{ℕ, ◌≤◌, ◌<◌, min}
use native.Mathlib.Omega.{arith}
use Rattle.laws.proofs.Tests.{le_or, eq_by, lt_by}
use Rattle.plan_method.specs.Sweep.{seek}
use Rattle.plan_method.proofs.Walk.{Sought, seek_is}
use Rattle.plan_starts.specs.Started.{Late}

-- two answers to one search are equal
pub sought_one : (need : ℕ → ℕ) (f d p a b : ℕ) → Sought need f d p a → Sought need f d p b → a ≡ b
sought_one need f d p a b s t = eq_by λ n. ⊎_elim
    (λ (z : a ≤ b).
    let l : a < b = lt_by λ y. n (omega arith) in
    omega (arith, s.above b (t.low (omega arith)) t.high l, t.uncut (omega arith)))
    (λ (z : b < a). omega (arith, t.above a (s.low (omega arith)) s.high z, s.uncut (omega arith)))
    (le_or a b)

-- what is found: an open start with none after it
pub seek_found
    : (need : ℕ → ℕ) (f d p a : ℕ) → d < a → a ≤ p → need a < f → ((y : ℕ) → d < y → y ≤ p → a < y → f ≤ need y)
    → seek need f d p ≡ a
seek_found need f d p a l h u k =
    sought_one need f d p (seek need f d p) a (seek_is need f d p)
    record { low = λ _. l; high = h; uncut = λ _. u; above = k }

-- nothing is open after b
pub seek_down
    : (need : ℕ → ℕ) (f d b p : ℕ) → b ≤ p → ((y : ℕ) → d < y → y ≤ p → b < y → f ≤ need y)
    → seek need f d p ≡ seek need f d b
seek_down need f d b p h k =
    let s = seek_is need f d b in
    sought_one need f d p (seek need f d p) (seek need f d b) (seek_is need f d p)
    record {
      low = s.low;
      high = omega (arith, s.high);
      uncut = s.uncut;
      above = λ y l i j. ⊎_elim (λ (z : y ≤ b). s.above y l z j) (λ (z : b < y). k y l i z) (le_or y b);
    }

-- a search goes on from a where no line that starts after a ends before it
pub seek_skip : (need : ℕ → ℕ) (f d b t a : ℕ) → f ≤ t → Late need d b t a → seek need f d (min a b) ≡ seek need f d b
seek_skip need f d b t a h k =
    sym (seek_down need f d (min a b) b (omega arith) (λ y l i j. omega (arith, k y l (omega arith) i)))

-- nothing is open after what was found
pub seek_late : (need : ℕ → ℕ) (f d b : ℕ) → Late need d b f (seek need f d b)
seek_late need f d b y l i j = (seek_is need f d b).above y l j i

-- ends that are before f at the same starts
pub seek_alike
    : (need other : ℕ → ℕ) (f d p : ℕ)
    → ((y : ℕ) → d < y → y ≤ p → need y < f → other y < f)
    → ((y : ℕ) → d < y → y ≤ p → f ≤ need y → f ≤ other y)
    → seek other f d p ≡ seek need f d p
seek_alike need other f d p x k =
    let s = seek_is need f d p in
    sought_one other f d p (seek other f d p) (seek need f d p) (seek_is other f d p)
    record {
      low = s.low;
      high = s.high;
      uncut = λ h. x (seek need f d p) (s.low h) s.high (s.uncut h);
      above = λ y l i j. k y l i (s.above y l i j);
    }
