-- What a placement hits: it, or the line, may grow; and of the gaps that it has in a line, one is the last.
-- Main definition: `Last`. Main statements: `hit_wider`, `hit_more`, `last_gap`, `last_late`.
use mathlib.Core.Path.{◌≡◌, refl}
use mathlib.Core.Bool.{Bool, true, false}
use mathlib.Core.Logic.{⊎_elim}
use Prim.Native.Nat.{ℕ, zero, suc, ◌≤◌, ◌<◌}
use native.Mathlib.Omega.{arith}
use Rattle.laws.proofs.Tests.{never_both, le_or, le_by}
use Rattle.plan_method.proofs.Claim.{Hit}

-- a wider line is hit too
pub hit_wider : {x : ℕ → Bool} {a b a' b' : ℕ} → a' ≤ a → b ≤ b' → Hit x a b → Hit x a' b'
hit_wider h i k =
    record {
      gap = k.gap;
      low = omega (arith, k.low);
      high = omega (arith, k.high);
      holds = k.holds;
    }

-- a placement with more gaps hits as much
pub hit_more : {x y : ℕ → Bool} {a b : ℕ} → ((g : ℕ) → x g ≡ true → y g ≡ true) → Hit x a b → Hit y a b
hit_more h k = record { gap = k.gap; low = k.low; high = k.high; holds = h k.gap k.holds }

-- the last gap that x has in a … b
pub record Last (x : ℕ → Bool) (a b : ℕ) : Type 0 where
  pub gap : ℕ
  pub low : a ≤ gap
  pub high : gap ≤ b
  pub holds : x gap ≡ true
  pub last : (g : ℕ) → gap < g → g ≤ b → x g ≡ true → ⊥

pub last_gap : (x : ℕ → Bool) (a b : ℕ) → Hit x a b → Last x a b
last_gap x a zero h =
    record {
      gap = h.gap;
      low = h.low;
      high = h.high;
      holds = h.holds;
      last = λ g i j k. omega arith;
    }
last_gap x a (suc b) h = go (x (suc b)) refl (last_gap x a b)
  where
    go : (t : Bool) → x (suc b) ≡ t → (Hit x a b → Last x a b) → Last x a (suc b)
    go true e r =
        record {
          gap = suc b;
          low = omega (arith, h.low, h.high);
          high = omega arith;
          holds = e;
          last = λ g i j k. omega arith;
        }
    go false e r =
        let m : h.gap ≤ b = ⊎_elim
        (λ (z : h.gap ≤ b). z)
        (λ (z : b < h.gap). (
        let y : h.gap ≡ suc b = omega (arith, h.high) in
        never_both h.holds (rw y e)))
        (le_or h.gap b) in
        let k : Last x a b = r record { gap = h.gap; low = h.low; high = m; holds = h.holds } in
        record {
          gap = k.gap;
          low = k.low;
          high = omega (arith, k.high);
          holds = k.holds;
          last = λ g i j l. ⊎_elim
              (λ (z : g ≤ b). k.last g i z l)
              (λ (z : b < g). (
              let y : g ≡ suc b = omega arith in
              never_both l (rw y e)))
              (le_or g b);
        }

-- no gap of the line is later
pub last_late : {x : ℕ → Bool} {a b : ℕ} → (k : Last x a b) → (g : ℕ) → g ≤ b → x g ≡ true → g ≤ k.gap
last_late k g h i = le_by (λ z. k.last g z h i)
