-- What stands in front of a sweep's placement: the sweep puts a barrier at the last gap of a line that the front does
-- not cut, so the front moves to the left and cuts what it is said to cut.
-- Main definition: `Foremost`. Main statements: `put_front`, `join_front`, `bare_front`, `front_cuts`.
use mathlib.Core.Path.{◌≡◌}
use mathlib.Core.Bool.{Bool, true}
use Prim.Native.Nat.{ℕ, suc, ◌≤◌, ◌<◌}
use native.Mathlib.Omega.{arith}
use Rattle.laws.proofs.Tests.{never, or_left, or_right}
use Rattle.plan_method.specs.Sweep.{bare, only, also}
use Rattle.plan_method.proofs.Claim.{Hit}
use Rattle.plan_method.proofs.Unions.{only_is, only_self, also_by}

-- the gaps of w lie in p + 1 … e, and f is the first of them, or lies above e
pub record Foremost (e p f : ℕ) (w : ℕ → Bool) : Type 0 where
  pub low : (g : ℕ) → w g ≡ true → p < g
  pub high : (g : ℕ) → w g ≡ true → g ≤ e
  pub first : (g : ℕ) → w g ≡ true → f ≤ g
  pub holds : f ≤ e → w f ≡ true

pub start_front : (e : ℕ) → Foremost e e (suc e) bare
start_front e =
    record {
      low = λ g h. never h;
      high = λ g h. never h;
      first = λ g h. never h;
      holds = λ h. absurd (omega arith);
    }

-- a lower boundary
pub skip_front : {e p f : ℕ} {w : ℕ → Bool} → Foremost e (suc p) f w → Foremost e p f w
skip_front k = record { low = λ g h. omega (arith, k.low g h); high = k.high; first = k.first; holds = k.holds }

-- a gap before all others
pub put_front : {e p f : ℕ} {w : ℕ → Bool} → p < e → Foremost e (suc p) f w
    → Foremost e p (suc p) (also (only (suc p)) w)
put_front {e} {p} {f} {w} u k =
    record {
      low = λ g h. by g h (λ z. omega arith) (λ z. omega (arith, k.low g z));
      high = λ g h. by g h (λ z. omega arith) (λ z. k.high g z);
      first = λ g h. by g h (λ z. omega arith) (λ z. omega (arith, k.low g z));
      holds = λ h. or_left (w (suc p)) (only_self (suc p));
    }
  where
    by : {A : Type 0} (g : ℕ) → also (only (suc p)) w g ≡ true → (g ≡ suc p → A) → (w g ≡ true → A) → A
    by g h a b = also_by (only (suc p)) w g h (λ z. a (only_is (suc p) g z)) b

-- what is laid for a child l with its ENDDO p: its first gap f is the first of all
pub join_front : {e p l f f' : ℕ} {x w : ℕ → Bool}
    → p ≤ e → l ≤ p → Foremost p l f x → x f ≡ true → Foremost e p f' w
    → Foremost e l f (also x w)
join_front {e} {p} {l} {f} {f'} {x} {w} u v j holds k =
    record {
      low = λ g h. also_by x w g h (j.low g) (λ z. omega (arith, k.low g z));
      high = λ g h. also_by x w g h (λ z. omega (arith, j.high g z)) (k.high g);
      first = λ g h. also_by x w g h (j.first g) (λ z. omega (arith, k.low g z, j.high f holds));
      holds = λ h. or_left (w f) holds;
    }

-- nothing laid for a child
pub bare_front : {e p l f : ℕ} {x w : ℕ → Bool}
    → l ≤ p → ((g : ℕ) → x g ≡ true → ⊥) → Foremost e p f w
    → Foremost e l f (also x w)
bare_front {e} {p} {l} {f} {x} {w} v none k =
    record {
      low = λ g h. omega (arith, k.low g (was g h));
      high = λ g h. k.high g (was g h);
      first = λ g h. k.first g (was g h);
      holds = λ h. or_right (x f) (k.holds h);
    }
  where
    was : (g : ℕ) → also x w g ≡ true → w g ≡ true
    was g h = also_by x w g h (λ z. absurd (none g z)) (λ z. z)

-- the front cuts a line that starts no later than right after p and is to be cut no earlier than the front
pub front_cuts : {e p f a n : ℕ} {w : ℕ → Bool} → Foremost e p f w → a ≤ suc p → f ≤ n → n ≤ e → Hit w a n
front_cuts {e} {p} {f} {a} {n} {w} k h i j =
    let z : w f ≡ true = k.holds (omega arith) in
    record { gap = f; low = omega (arith, k.low f z); high = i; holds = z }
