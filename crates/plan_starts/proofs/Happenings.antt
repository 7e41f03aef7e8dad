-- The event at a gap of a loop inside or after it, by cases.
-- Main statements: `cost_inner`, `front_inner`, `cost_outer`, `front_outer`, `cost_one`, `front_within`.
use mathlib.Core.Path.{◌≡◌, refl}
use mathlib.Core.Bool.{Bool, true, false, ◌&&◌}
use Prim.Native.Nat.{ℕ, zero, suc, ◌≤◌, ◌<◌}
use native.Mathlib.Omega.{arith}
use lib.Dec.{ltb, leb}
use borrow.Author.Tests.{lt-ltb, le-leb, leb-true, ltb-true}
use Rattle.laws.specs.Choice.{pick, first_of}
use Rattle.laws.proofs.Tests.{false_by, and_true}
use Rattle.plan_starts.specs.Grounds.{Within}
use Rattle.plan_starts.specs.Started.{cost_at, front_or, front_at}

module _ (left : ℕ → ℕ) (l p x : ℕ) where
  -- the loop cuts all
  pub cost_inner : x ≤ p → 0 < left x → cost_at left p x ≡ 0
  unfolding cost_at
  cost_inner h g = rw (le-leb x p h, lt-ltb 0 (left x) g)

  pub or_inner : (outer : ℕ) → x ≤ p → 0 < left x → front_or left p x outer ≡ left x
  unfolding front_or
  or_inner outer h g = rw (le-leb x p h, lt-ltb 0 (left x) g)

  pub front_inner : x ≤ p → 0 < left x → front_at left l p x ≡ left x
  front_inner = or_inner (first_of (left (suc l)) (suc p))

  -- a barrier after the loop
  none : (x ≤ p → left x ≡ 0) → (leb x p && ltb 0 (left x)) ≡ false
  none h = false_by λ e.
      let z = and_true (leb x p) (ltb 0 (left x)) e in
      omega (arith, h (leb-true x p z.0), ltb-true 0 (left x) z.1)

  pub cost_outer : (x ≤ p → left x ≡ 0) → cost_at left p x ≡ 1
  unfolding cost_at
  cost_outer h = rw (none h)

  pub or_outer : (outer : ℕ) → (x ≤ p → left x ≡ 0) → front_or left p x outer ≡ outer
  unfolding front_or
  or_outer outer h = rw (none h)

  pub front_outer : (x ≤ p → left x ≡ 0) → front_at left l p x ≡ first_of (left (suc l)) (suc p)
  front_outer = or_outer (first_of (left (suc l)) (suc p))

  pub cost_one : cost_at left p x ≤ 1
  unfolding cost_at
  cost_one = go (leb x p && ltb 0 (left x))
    where
      go : (t : Bool) → pick t 0 1 ≤ 1
      go true = omega arith
      go false = omega arith

  -- the front is a gap of the loop, or the gap after it
  pub front_within : l < p → l < x → ((q : ℕ) → l < q → q ≤ p → Within l p (left q)) → (l < front_at left l p x) ×
      (front_at left l p x ≤ suc p)
  unfolding front_or
  front_within h i k = go (leb x p && ltb 0 (left x)) refl
    where
      first : (a : ℕ) → Within l p a → (l < first_of a (suc p)) × (first_of a (suc p) ≤ suc p)
      first zero w = (omega arith, omega arith)
      first (suc a) w = (w.low (omega arith), omega (arith, w.high))

      go
          : (t : Bool)
          → (leb x p && ltb 0 (left x)) ≡ t
          → (l < pick t (left x) (first_of (left (suc l)) (suc p))) × (pick t (left x) (first_of (left (suc l)) (suc p)) ≤
          suc p)
      go true e =
          let z = and_true (leb x p) (ltb 0 (left x)) e in
          let w = k x i (leb-true x p z.0) in
          (w.low (ltb-true 0 (left x) z.1), omega (arith, w.high))
      go false e = first (left (suc l)) (k (suc l) (omega arith) h)
