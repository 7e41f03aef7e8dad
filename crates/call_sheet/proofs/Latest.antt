-- The latest of some times.
-- Main statements: `latest_le`, `latest_at`, `latest_bound`, `latest_same`, `latest_plus`.
use mathlib.Core.Path.{◌≡◌, refl}
use mathlib.Core.Bool.{Bool, true, false}
use mathlib.Core.Logic.{◌⊎◌, inl, inr}
use Prim.Native.Nat.{ℕ, zero, suc, ◌+◌, ◌≤◌, ◌<◌}
use native.Mathlib.Omega.{arith}
use Rattle.laws.specs.Choice.{when}
use Rattle.laws.proofs.Tests.{eq_or}
use Rattle.call_sheet.specs.Sheets.{latest, anyone}

-- fewer chosen, and none later, is not later
pub latest_le :
    (x y : ℕ → Bool) (f h : ℕ → ℕ) (n : ℕ) → ((q : ℕ) → q < n → x q ≡ true → y q ≡ true) →
    ((q : ℕ) → q < n → f q ≤ h q) → latest x f n ≤ latest y h n
unfolding latest
latest_le x y f h zero c e = omega arith
latest_le x y f h (suc n) c e =
    let below : latest x f n ≤ latest y h n =
    latest_le x y f h n (λ q l. c q (omega arith)) (λ q l. e q (omega arith)) in
    let here : when (x n) (f n) ≤ when (y n) (h n) = at (x n) (y n) (c n (omega arith)) (e n (omega arith)) in
    omega arith
  where
    at : (a b : Bool) → (a ≡ true → b ≡ true) → f n ≤ h n → when a (f n) ≤ when b (h n)
    at false b u v = omega arith
    at true true u v = v
    at true false u v = let z : ◌≡◌ {A = ℕ} 0 1 = cc (u refl) in absurd (omega arith)

-- each that is chosen is at most the latest
pub latest_at : (x : ℕ → Bool) (f : ℕ → ℕ) (n q : ℕ) → q < n → x q ≡ true → f q ≤ latest x f n
unfolding latest
latest_at x f zero q l h = absurd (omega arith)
latest_at x f (suc n) q l h = go (eq_or q n) (latest_at x f n q)
  where
    go : (q ≡ n) ⊎ ((q ≡ n) → ⊥) → (q < n → x q ≡ true → f q ≤ latest x f n) → f q ≤ latest x f (suc n)
    go (inl z) r =
        let y : x n ≡ true = rw z at h in
        rw (z, y) (omega arith)
    go (inr z) r = omega (arith, r (omega arith) h)

-- the latest is at most what bounds each
pub latest_bound : (x : ℕ → Bool) (f : ℕ → ℕ) (n m : ℕ) → ((q : ℕ) → q < n → f q ≤ m) → latest x f n ≤ m
unfolding latest
latest_bound x f zero m e = omega arith
latest_bound x f (suc n) m e =
    let below : latest x f n ≤ m = latest_bound x f n m (λ q l. e q (omega arith)) in
    let here : when (x n) (f n) ≤ m = at (x n) (e n (omega arith)) in
    omega arith
  where
    at : (a : Bool) → f n ≤ m → when a (f n) ≤ m
    at true u = u
    at false u = omega arith

-- the same chosen and the same times give the same latest
pub latest_same :
    (x y : ℕ → Bool) (f h : ℕ → ℕ) (n : ℕ) → ((q : ℕ) → q < n → x q ≡ y q) → ((q : ℕ) → q < n → f q ≡ h q) →
    latest x f n ≡ latest y h n
unfolding latest
latest_same x y f h zero c e = refl
latest_same x y f h (suc n) c e =
    let chosen : x n ≡ y n = c n (omega arith) in
    let here : f n ≡ h n = e n (omega arith) in
    let below : latest x f n ≡ latest y h n =
    latest_same x y f h n (λ q l. c q (omega arith)) (λ q l. e q (omega arith)) in
    rw (chosen, here, below)

-- all moved by c
pub latest_plus :
    (c : ℕ) (f : ℕ → ℕ) (n : ℕ) → 0 < n → latest anyone (λ q. c + f q) n ≡ c + latest anyone f n
unfolding latest
latest_plus c f zero l = absurd (omega arith)
latest_plus c f (suc zero) l = omega arith
latest_plus c f (suc (suc n)) l =
    omega (arith, latest_plus c f (suc n) (omega arith))
