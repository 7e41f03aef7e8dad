-- What the barriers of a placement cost in a run: each loop's count times the loop's price.
-- Main definitions: `Prices`, `calls`. Main statements: `more_of`, `fewer_of`, `calls_same`, `calls_le`.
use mathlib.Core.Path.{◌≡◌}
use mathlib.Core.Bool.{Bool, true, false}
use mathlib.Core.Logic.{⊎_elim}
use Prim.Native.Nat.{ℕ, suc, ◌+◌, ◌*◌, ◌≤◌, ◌<◌}
use native.Mathlib.Nat.{suc-mul, add-mul, mul-le-mul_right}
use native.Mathlib.Omega.{arith}
use Rattle.laws.specs.Choice.{when}
use Rattle.laws.proofs.Tests.{test}
use Rattle.plan_method.specs.Sweep.{Loops}
use Rattle.plan_method.proofs.World.{Inside}
use Rattle.plan_method.proofs.Claim.{count}
use Rattle.plan_exchange.proofs.Totals.{total, total_same, total_le}

-- 001, lemma 2: each loop inside d turns at least twice for each turn of the loop around it, so a barrier of its own is
-- called at least twice as often as one of the loop around it
pub record Prices (B : Loops) (d : ℕ) (price : ℕ → ℕ) : Type 0 where
  pub twice : (l : ℕ) → Inside B d l → d < l → 2 * price (B.own l) ≤ price l

-- the calls of x at loop l, and at all the loops
abbrev pub calls_at : Loops → (ℕ → ℕ) → (ℕ → Bool) → ℕ → ℕ
calls_at B price x l = when (B.is_do l) (count B x l * price l)

unfoldable pub calls : Loops → ℕ → (ℕ → ℕ) → (ℕ → Bool) → ℕ
calls B d price x = total (calls_at B price x) (B.stop d)

-- at most two gaps more
pub more_of : (k c w : ℕ) → k ≤ c + 2 → k * w ≤ c * w + 2 * w
more_of k c w h = omega (arith, mul-le-mul_right w h, add-mul c 2 w)

-- at least one gap fewer
pub fewer_of : (k c w v : ℕ) → k < c → v ≤ w → k * w + v ≤ c * w
fewer_of k c w v h i =
    let z : suc k * w ≤ c * w = mul-le-mul_right w h in
    omega (arith, suc-mul k w)

module _ (B : Loops) (d : ℕ) (price : ℕ → ℕ) (x y : ℕ → Bool) where
  -- the same counts at every loop
  pub calls_same : ((l : ℕ) → B.is_do l ≡ true → count B x l ≡ count B y l) → calls B d price x ≡ calls B d price y
  unfolding calls
  calls_same h = total_same (calls_at B price x) (calls_at B price y) (B.stop d) (λ l i. at l)
    where
      at : (l : ℕ) → calls_at B price x l ≡ calls_at B price y l
      at l =
          ⊎_elim
          (λ (z : B.is_do l ≡ true). rw (z, h l z))
          (λ (z : B.is_do l ≡ false). rw z)
          (test (B.is_do l))

  -- at no loop a greater count
  pub calls_le : ((l : ℕ) → B.is_do l ≡ true → count B x l ≤ count B y l) → calls B d price x ≤ calls B d price y
  unfolding calls
  calls_le h = total_le (calls_at B price x) (calls_at B price y) (B.stop d) (λ l i. at l)
    where
      at : (l : ℕ) → calls_at B price x l ≤ calls_at B price y l
      at l =
          ⊎_elim
          (λ (z : B.is_do l ≡ true). rw z (mul-le-mul_right (price l) (h l z)))
          (λ (z : B.is_do l ≡ false). rw z (omega arith))
          (test (B.is_do l))
