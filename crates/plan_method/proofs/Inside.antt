-- Loops inside loops: a loop is inside itself, inside is transitive, and what follows for a loop from all the loops
-- strictly inside it holds of every loop.
-- Main statements: `inside_self`, `inside_trans`, `self_or_inside`, `from_inside`, `first_own`, `end_no_do`.
use mathlib.Core.Path.{◌≡◌}
use mathlib.Core.Bool.{true}
use mathlib.Core.Logic.{⊎_elim}
use Prim.Native.Nat.{ℕ, zero, suc, ◌+◌, ◌≤◌, ◌<◌}
use native.Mathlib.Omega.{arith}
use Rattle.laws.proofs.Tests.{le_or}
use Rattle.plan_method.specs.Sweep.{Loops}
use Rattle.plan_method.proofs.World.{Inside, EachInside, Owner, Child, LoopLaws}

-- a loop inside d is d or lies strictly inside
pub self_or_inside : (B : Loops) (d l : ℕ) (P : ℕ → Type 0) → Inside B d l → P d → (d < l → P l) → P l
self_or_inside B d l P i self inner =
    ⊎_elim
    (λ (z : l ≤ d). (
    let e : l ≡ d = omega (arith, i.from) in
    rw e self))
    inner
    (le_or l d)

module _ (B : Loops) (laws : LoopLaws B) where
  pub inside_self : (d : ℕ) → B.is_do d ≡ true → Inside B d d
  inside_self d is-do = record { is-do = is-do; from = omega arith; below = laws.long d is-do }

  -- loops inside a loop inside d lie inside d
  pub inside_trans : (d l m : ℕ) → B.is_do d ≡ true → Inside B d l → Inside B l m → Inside B d m
  inside_trans d l m is-do i =
      self_or_inside B d l (λ n. Inside B n m → Inside B d m) i (λ j. j)
      (λ h j. (
      let z : B.stop l < B.stop d = laws.nested d l is-do i.is-do h (omega (arith, i.below)) in
      record { is-do = j.is-do; from = omega (arith, i.from, j.from); below = omega (arith, j.below) }))

  -- induction from the inside
  module _ (P : ℕ → Type 0) (on : (d : ℕ) → B.is_do d ≡ true → EachInside B d P → P d) where
    by_height : (k d : ℕ) → B.stop d ≤ d + k → B.is_do d ≡ true → P d
    by_height zero d h is-do = absurd (omega (arith, laws.long d is-do))
    by_height (suc k) d h is-do =
        on d is-do (λ l i j. by_height k l
        (omega (arith, laws.nested d l is-do i.is-do j (omega (arith, i.below)))) i.is-do)

    pub from_inside : (d : ℕ) → B.is_do d ≡ true → P d
    from_inside d is-do = by_height (B.stop d) d (omega arith) is-do

  -- the gap right after a loop's DO is its own
  pub first_own : (d : ℕ) → B.is_do d ≡ true → B.own (suc d) ≡ d
  first_own d is-do =
      let o : Owner B d (suc d) = laws.owner d (suc d) is-do (omega arith) (laws.long d is-do) in
      omega (arith, o.from, o.below)

  -- a child's ENDDO is no DO
  pub end_no_do : (d p l : ℕ) → Child B d p l → B.is_do p ≡ true → ⊥
  end_no_do d p l c h =
      let y : B.is_do (B.stop l) ≡ true = rw c.ends h in
      let u : l < B.stop l = laws.long l c.is-do in
      omega (arith, laws.long (B.stop l) y, laws.nested l (B.stop l) c.is-do y u (omega arith))
