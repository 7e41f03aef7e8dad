-- Laws on products as sums, on the greatest of some numbers, and on tests of all numbers up to one.
-- Main statements: `lots_when`, `lots_more`, `lots_le`, `lots_swap`, `greatest_at`, `greatest_in`, `every_at`,
-- `every_by`.
use mathlib.Core.Path.{◌≡◌, refl, ap}
use mathlib.Core.Bool.{Bool, true, false}
use mathlib.Core.Logic.{◌⊎◌, inl, inr}
use Prim.Native.Nat.{ℕ, zero, suc, ◌+◌, ◌≤◌, ◌<◌}
use native.Mathlib.Omega.{arith}
use lib.Dec.{leb}
use borrow.Author.Tests.{leb-true, leb-false}
use Rattle.laws.specs.Choice.{pick, when}
use Rattle.laws.proofs.Tests.{and_true, and_intro, eq_or}
use Rattle.argue_claims.specs.Arguments.{every, greatest, lots}

-- ---- c times m

pub lots_zero : (m : ℕ) → lots m 0 ≡ 0
unfolding lots
lots_zero m = refl

pub lots_suc : (m c : ℕ) → lots m (suc c) ≡ m + lots m c
unfolding lots
lots_suc m c = refl

pub lots_when : (b : Bool) (m c : ℕ) → lots m (when b 1 + c) ≡ when b m + lots m c
unfolding lots
lots_when true m c =
    let z : 1 + c ≡ suc c = omega arith in
    rw z
lots_when false m c =
    let z : 0 + c ≡ c = omega arith in
    let y : lots m (0 + c) ≡ lots m c = rw z in
    omega (arith, y)

-- it grows with either
pub lots_more : (m a b : ℕ) → a ≤ b → lots m a ≤ lots m b
lots_more m zero b h = omega (arith, lots_zero m)
lots_more m (suc a) zero h = absurd (omega arith)
lots_more m (suc a) (suc b) h = omega (arith, lots_suc m a, lots_suc m b, lots_more m a b (omega (arith, h)))

pub lots_le : (a b c : ℕ) → a ≤ b → lots a c ≤ lots b c
lots_le a b zero h = omega (arith, lots_zero a)
lots_le a b (suc c) h = omega (arith, lots_suc a c, lots_suc b c, lots_le a b c h, h)

lots_none : (c : ℕ) → lots 0 c ≡ 0
lots_none zero = lots_zero 0
lots_none (suc c) = omega (arith, lots_suc 0 c, lots_none c)

lots_once_more : (a c : ℕ) → lots (suc a) c ≡ c + lots a c
lots_once_more a zero = omega (arith, lots_zero a, lots_zero (suc a))
lots_once_more a (suc c) = omega (arith, lots_suc a c, lots_suc (suc a) c, lots_once_more a c)

pub lots_swap : (a b : ℕ) → lots a b ≡ lots b a
lots_swap a zero = omega (arith, lots_zero a, lots_none a)
lots_swap a (suc b) = omega (arith, lots_suc a b, lots_once_more b a, lots_swap a b)

-- ---- the greatest

pub greatest_pos : (t : ℕ → ℕ) (n : ℕ) → 0 < greatest t n
greatest_pos t zero = omega arith
greatest_pos t (suc n) = go (leb (greatest t n) (t (suc n))) refl (greatest_pos t n)
  where
    go : (b : Bool) → leb (greatest t n) (t (suc n)) ≡ b → 0 < greatest t n → 0 < pick b (t (suc n)) (greatest t n)
    go true e r = omega (arith, leb-true (greatest t n) (t (suc n)) e, r)
    go false e r = r

pub greatest_at : (t : ℕ → ℕ) (n g : ℕ) → 0 < g → g ≤ n → t g ≤ greatest t n
greatest_at t zero g p q = absurd (omega arith)
greatest_at t (suc n) g p q = go (leb (greatest t n) (t (suc n))) refl (eq_or g (suc n)) (greatest_at t n g p)
  where
    go : (b : Bool) → leb (greatest t n) (t (suc n)) ≡ b → (g ≡ suc n) ⊎ ((g ≡ suc n) → ⊥) →
        (g ≤ n → t g ≤ greatest t n) → t g ≤ pick b (t (suc n)) (greatest t n)
    go true e (inl z) r =
        let y : t g ≡ t (suc n) = ap t z in
        omega (arith, y)
    go true e (inr z) r = omega (arith, r (omega (arith, z)), leb-true (greatest t n) (t (suc n)) e)
    go false e (inl z) r =
        let y : t g ≡ t (suc n) = ap t z in
        omega (arith, y, leb-false (greatest t n) (t (suc n)) e)
    go false e (inr z) r = r (omega (arith, z))

pub greatest_in : (t : ℕ → ℕ) (m n : ℕ) → 0 < m → ((g : ℕ) → 0 < g → g ≤ n → t g ≤ m) → greatest t n ≤ m
greatest_in t m zero p h = p
greatest_in t m (suc n) p h =
    go (leb (greatest t n) (t (suc n))) (greatest_in t m n p (λ g a b. h g a (omega (arith, b))))
  where
    go : (b : Bool) → greatest t n ≤ m → pick b (t (suc n)) (greatest t n) ≤ m
    go true r = h (suc n) (omega arith) (omega arith)
    go false r = r

-- ---- every number from 1 on

pub every_at : (f : ℕ → Bool) (n g : ℕ) → every f n ≡ true → 0 < g → g ≤ n → f g ≡ true
every_at f zero g h p q = absurd (omega arith)
every_at f (suc n) g h p q = go (and_true (f (suc n)) (every f n) h) (eq_or g (suc n)) (every_at f n g)
  where
    go : (f (suc n) ≡ true) × (every f n ≡ true) → (g ≡ suc n) ⊎ ((g ≡ suc n) → ⊥) →
        (every f n ≡ true → 0 < g → g ≤ n → f g ≡ true) → f g ≡ true
    go z (inl e) r = rw e z.0
    go z (inr e) r = r z.1 p (omega (arith, e))

pub every_by : (f : ℕ → Bool) (n : ℕ) → ((g : ℕ) → 0 < g → g ≤ n → f g ≡ true) → every f n ≡ true
every_by f zero h = refl
every_by f (suc n) h =
    and_intro (h (suc n) (omega arith) (omega arith)) (every_by f n (λ g p q. h g p (omega (arith, q))))
