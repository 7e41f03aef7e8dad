-- One row narrowed from right to left: the least so far goes into each place that holds more.
-- Main definition: `Narrowing`, what a turn keeps. Main statements: `narrow_start`, `narrow_on`.
use mathlib.Core.Path.{◌≡◌, refl, ◌∙◌}
use mathlib.Core.List.{List}
use mathlib.Core.Logic.{◌⊎◌, inl, inr, ⊎_elim}
use Prim.Native.Nat.{ℕ, zero, suc, ◌+◌, ◌-◌, ◌≤◌, ◌<◌, min}
use native.Mathlib.Omega.{arith}
use lib.ListN.{length, set, length-set}
use Rattle.laws.specs.Entries.{at}
use Rattle.laws.proofs.Tests.{eq_or}
use Rattle.plan_tables.specs.Collected.{lowest_from}
use Rattle.plan_tables.proofs.Entries.{entry_here, entry_elsewhere}

-- the places above q are done, and m is the least of them and e
pub record Narrowing (xs : List ℕ) (base d e m q : ℕ) (ys : List ℕ) : Type 0 where
  pub low : d ≤ q
  pub high : q ≤ e
  pub long : length ys ≡ length xs
  pub least : (k : ℕ) → q + k ≡ e → m ≡ lowest_from (λ i. at xs (base + i)) e k (suc q)
  pub done : (j k : ℕ) → q < j → j + k ≡ e → at ys (base + j) ≡ lowest_from (λ i. at xs (base + i)) e (suc k) j
  pub rest : (i : ℕ) → (i ≤ base + q) ⊎ (base + e < i) → at ys i ≡ at xs i

pub narrow_start : {xs : List ℕ} {base d e : ℕ} → d ≤ e → Narrowing xs base d e e e xs
unfolding lowest_from
narrow_start l =
    record {
      low = l;
      high = omega arith;
      long = refl;
      least = λ k h. let z : k ≡ 0 = omega arith in rw z;
      done = λ j k h m. absurd (omega arith);
      rest = λ i h. refl;
    }

module _ {xs : List ℕ} {base d e m q : ℕ} {ys : List ℕ} (p : Narrowing xs base d e m q ys) where
  -- a turn: the least with one more place, and that place holds it
  pub narrow_on :
      {v : ℕ} → d < q → base + e < length xs → v ≡ min m (at ys (base + q)) →
      Narrowing xs base d e v (q - 1) (set ys (base + q) v)
  unfolding lowest_from
  narrow_on {v} l r v_is =
      record {
        low = omega arith;
        high = omega (arith, p.high);
        long = length-set ys (base + q) v ∙ p.long;
        least = least;
        done = done;
        rest = rest;
      }
    where
      f : ℕ → ℕ
      f i = at xs (base + i)

      value : (k : ℕ) → q + k ≡ e → v ≡ min (f q) (lowest_from f e k (suc q))
      value k h =
          let y : at ys (base + q) ≡ f q = p.rest (base + q) (inl (omega arith)) in
          omega (arith, p.least k h)

      least : (k : ℕ) → q - 1 + k ≡ e → v ≡ lowest_from f e k (suc (q - 1))
      least zero h = absurd (omega (arith, p.high))
      least (suc k) h = let z : suc (q - 1) ≡ q = omega arith in rw z (value k (omega arith))

      same : (i : ℕ) → (i ≡ base + q → ⊥) → at (set ys (base + q) v) i ≡ at ys i
      same = entry_elsewhere ys (base + q) v

      done : (j k : ℕ) → q - 1 < j → j + k ≡ e → at (set ys (base + q) v) (base + j) ≡ lowest_from f e (suc k) j
      done j k h s = ⊎_elim
          (λ (z : j ≡ q). rw z (entry_here ys (base + q) v (omega (arith, p.high, p.long)) ∙ value k (omega arith)))
          (λ (z : j ≡ q → ⊥). same (base + j) (λ y. z (omega arith)) ∙ p.done j k (omega arith) s)
          (eq_or j q)

      rest : (i : ℕ) → (i ≤ base + (q - 1)) ⊎ (base + e < i) → at (set ys (base + q) v) i ≡ at xs i
      rest i (inl h) = same i (λ y. omega arith) ∙ p.rest i (inl (omega arith))
      rest i (inr h) = same i (λ y. omega (arith, p.high)) ∙ p.rest i (inr h)
