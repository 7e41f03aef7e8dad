-- Sums over the numbers below n.
-- Main definition: `total`. Main statements: `total_same`, `total_le`, `total_put`, `total_up`, `total_shift`.
use mathlib.Core.Path.{◌≡◌, refl}
use mathlib.Core.Logic.{◌⊎◌, inl, inr}
use Prim.Native.Nat.{ℕ, zero, suc, ◌+◌, ◌≤◌, ◌<◌}
use native.Mathlib.Omega.{arith}
use Rattle.laws.proofs.Tests.{eq_or}

unfoldable pub total : (ℕ → ℕ) → ℕ → ℕ
total f zero = 0
total f (suc m) = f m + total f m

-- summands that agree below n
pub total_same : (f h : ℕ → ℕ) (n : ℕ) → ((m : ℕ) → m < n → f m ≡ h m) → total f n ≡ total h n
unfolding total
total_same f h zero e = refl
total_same f h (suc n) e =
    let here : f n ≡ h n = e n (omega arith) in
    let below : total f n ≡ total h n = total_same f h n (λ m l. e m (omega arith)) in
    omega arith

-- summands of which none is greater
pub total_le : (f h : ℕ → ℕ) (n : ℕ) → ((m : ℕ) → m < n → f m ≤ h m) → total f n ≤ total h n
unfolding total
total_le f h zero e = omega arith
total_le f h (suc n) e =
    let here : f n ≤ h n = e n (omega arith) in
    let below : total f n ≤ total h n = total_le f h n (λ m l. e m (omega arith)) in
    omega arith

-- two sums whose summands agree below n but at p
module _ (f h : ℕ → ℕ) (p c : ℕ) where
  abbrev Others : ℕ → Type 0
  Others n = (m : ℕ) → m < n → (m ≡ p → ⊥) → f m ≡ h m

  -- one summand is greater by c
  pub total_put : (n : ℕ) → p < n → Others n → f p ≡ h p + c → total f n ≡ total h n + c
  unfolding total
  total_put zero l e u = absurd (omega arith)
  total_put (suc n) l e u = go (eq_or n p) (λ i. total_put n i (λ m j. e m (omega arith)) u)
    where
      go : (n ≡ p) ⊎ ((n ≡ p) → ⊥) → (p < n → total f n ≡ total h n + c) → f n + total f n ≡ h n + total h n + c
      go (inl z) r =
          let below : total f n ≡ total h n = total_same f h n (λ m i. e m (omega arith) (λ y. omega arith)) in
          let here : f n ≡ h n + c = rw z u in
          omega arith
      go (inr z) r = omega (arith, e n (omega arith) z, r (omega (arith, z)))

  -- by at most c
  pub total_up : (n : ℕ) → p < n → Others n → f p ≤ h p + c → total f n ≤ total h n + c
  unfolding total
  total_up zero l e u = absurd (omega arith)
  total_up (suc n) l e u = go (eq_or n p) (λ i. total_up n i (λ m j. e m (omega arith)) u)
    where
      go : (n ≡ p) ⊎ ((n ≡ p) → ⊥) → (p < n → total f n ≤ total h n + c) → f n + total f n ≤ h n + total h n + c
      go (inl z) r =
          let below : total f n ≡ total h n = total_same f h n (λ m i. e m (omega arith) (λ y. omega arith)) in
          let here : f n ≤ h n + c = rw z u in
          omega arith
      go (inr z) r = omega (arith, e n (omega arith) z, r (omega (arith, z)))

-- one summand goes up by at most c, and a later one down by at least c
pub total_shift :
    (f h : ℕ → ℕ) (p l c n : ℕ) → p < l → l < n →
    ((m : ℕ) → (m ≡ p → ⊥) → (m ≡ l → ⊥) → f m ≡ h m) → f p ≤ h p + c → f l + c ≤ h l → total f n ≤ total h n
unfolding total
total_shift f h p l c zero i j e u v = absurd (omega arith)
total_shift f h p l c (suc n) i j e u v = go (eq_or n l) (λ k. total_shift f h p l c n i k e u v)
  where
    go : (n ≡ l) ⊎ ((n ≡ l) → ⊥) → (l < n → total f n ≤ total h n) → f n + total f n ≤ h n + total h n
    go (inl z) r =
        let here : f n + c ≤ h n = rw z v in
        omega (arith, total_up f h p c n (omega arith) e' u)
      where
        e' : (m : ℕ) → m < n → (m ≡ p → ⊥) → f m ≡ h m
        e' m k q = e m q (λ (y : m ≡ l). omega arith)
    go (inr z) r = omega (arith, e n (λ (y : n ≡ p). omega arith) z, r (omega (arith, z)))
