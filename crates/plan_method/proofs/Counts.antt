-- Counting the numbers 1 … n that pass a test.
-- Main statements: `cnt_same`, `cnt_skip`, `cnt_none`, `cnt_some`, `cnt_put`.
use mathlib.Core.Path.{◌≡◌, refl, sym, ◌∙◌}
use mathlib.Core.Bool.{Bool, true, false}
use mathlib.Core.Logic.{◌⊎◌, inl, inr, ⊎_elim}
use Prim.Native.Nat.{ℕ, zero, suc, ◌+◌, ◌≤◌, ◌<◌}
use native.Mathlib.Omega.{arith}
use Rattle.laws.specs.Choice.{when}
use Rattle.laws.proofs.Tests.{test, le_or, eq_or}

unfoldable pub cnt : (ℕ → Bool) → ℕ → ℕ
cnt f zero = 0
cnt f (suc g) = when (f (suc g)) 1 + cnt f g

-- one more, and none more
pub cnt_yes : (f : ℕ → Bool) (g : ℕ) → f (suc g) ≡ true → cnt f (suc g) ≡ suc (cnt f g)
unfolding cnt
cnt_yes f g h =
    let z : cnt f (suc g) ≡ 1 + cnt f g = rw h in
    omega arith

pub cnt_skips : (f : ℕ → Bool) (g : ℕ) → f (suc g) ≡ false → cnt f (suc g) ≡ cnt f g
unfolding cnt
cnt_skips f g h =
    let z : cnt f (suc g) ≡ 0 + cnt f g = rw h in
    omega arith

-- two tests that agree on 1 … n count the same
pub cnt_same : (f h : ℕ → Bool) (n : ℕ) → ((g : ℕ) → 0 < g → g ≤ n → f g ≡ h g) → cnt f n ≡ cnt h n
unfolding cnt
cnt_same f h zero e = refl
cnt_same f h (suc n) e =
    let here : f (suc n) ≡ h (suc n) = e (suc n) (omega arith) (omega arith) in
    let below : cnt f n ≡ cnt h n = cnt_same f h n (λ g p q. e g p (omega arith)) in
    rw (here, below)

-- nothing between l and n: the count at n is that at l
pub cnt_skip : (f : ℕ → Bool) (l n : ℕ) → l ≤ n → ((g : ℕ) → l < g → g ≤ n → f g ≡ false) → cnt f n ≡ cnt f l
cnt_skip f l zero h e =
    let z : 0 ≡ l = omega arith in
    rw z
cnt_skip f l (suc n) h e = go (le_or l n) (cnt_skip f l n)
  where
    go : (l ≤ n) ⊎ (n < l) → (l ≤ n → ((g : ℕ) → l < g → g ≤ n → f g ≡ false) → cnt f n ≡ cnt f l) →
        cnt f (suc n) ≡ cnt f l
    go (inl z) r = cnt_skips f n (e (suc n) (omega arith) (omega arith)) ∙ r z (λ g p q. e g p (omega arith))
    go (inr z) r =
        let y : suc n ≡ l = omega arith in
        rw y

-- nothing passes: the count is 0
pub cnt_none : (f : ℕ → Bool) (n : ℕ) → ((g : ℕ) → 0 < g → g ≤ n → f g ≡ false) → cnt f n ≡ 0
unfolding cnt
cnt_none f n e = cnt_skip f 0 n (omega arith) e

-- something passes: the count is not 0
pub cnt_some : (f : ℕ → Bool) (n g : ℕ) → 0 < g → g ≤ n → f g ≡ true → 0 < cnt f n
cnt_some f zero g p q h = absurd (omega arith)
cnt_some f (suc n) g p q h = go (eq_or g (suc n)) (cnt_some f n g p)
  where
    more : cnt f n ≤ cnt f (suc n)
    more =
        ⊎_elim
        (λ (z : f (suc n) ≡ true). omega (arith, cnt_yes f n z))
        (λ (z : f (suc n) ≡ false). omega (arith, cnt_skips f n z))
        (test (f (suc n)))

    go : (g ≡ suc n) ⊎ ((g ≡ suc n) → ⊥) → (g ≤ n → f g ≡ true → 0 < cnt f n) → 0 < cnt f (suc n)
    go (inl z) r =
        let y : f (suc n) ≡ true = rw z at h in
        omega (arith, cnt_yes f n y)
    go (inr z) r =
        let y : g ≤ n = omega (arith, z) in
        omega (arith, more, r y h)

-- a test that also passes at one place where the other fails counts one more
pub cnt_put : (f h : ℕ → Bool) (n p : ℕ) → 0 < p → p ≤ n → f p ≡ true → h p ≡ false →
    ((g : ℕ) → (g ≡ p → ⊥) → f g ≡ h g) → cnt f n ≡ suc (cnt h n)
cnt_put f h zero p a b yes' no' e = absurd (omega arith)
cnt_put f h (suc n) p a b yes' no' e = go (eq_or p (suc n)) (cnt_put f h n p a)
  where
    go : (p ≡ suc n) ⊎ ((p ≡ suc n) → ⊥) →
        (p ≤ n → f p ≡ true → h p ≡ false → ((g : ℕ) → (g ≡ p → ⊥) → f g ≡ h g) → cnt f n ≡ suc (cnt h n)) →
        cnt f (suc n) ≡ suc (cnt h (suc n))
    go (inl z) r =
        let y : f (suc n) ≡ true = rw z at yes' in
        let w : h (suc n) ≡ false = rw z at no' in
        let below : cnt f n ≡ cnt h n = cnt_same f h n (λ g i j. e g (λ (k : g ≡ p). omega arith)) in
        omega (arith, cnt_yes f n y, cnt_skips h n w)
    go (inr z) r =
        let below : cnt f n ≡ suc (cnt h n) = r (omega (arith, z)) yes' no' e in
        let here : f (suc n) ≡ h (suc n) = e (suc n) (λ (k : suc n ≡ p). z (sym k)) in
        ⊎_elim
        (λ (t : h (suc n) ≡ true). omega (arith, cnt_yes f n (here ∙ t), cnt_yes h n t))
        (λ (t : h (suc n) ≡ false). omega (arith, cnt_skips f n (here ∙ t), cnt_skips h n t))
        (test (h (suc n)))
