-- A placement w is not after a placement x in list order: at the first gap where they differ, w has the gap. How this
-- goes on when a gap is put before w, when x has no gap there, and when the gaps of a child are put before w.
-- Main definition: `NotAfter`. Main statements: `put_before`, `skip_before`, `join_before`.
use mathlib.Core.Path.{◌≡◌, ◌∙◌}
use mathlib.Core.Bool.{Bool, true, false}
use mathlib.Core.Logic.{◌⊎◌, inl, inr}
use Prim.Native.Nat.{ℕ, suc, ◌≤◌, ◌<◌}
use native.Mathlib.Omega.{arith}
use Rattle.laws.proofs.Tests.{never_both, le_or, or_left}
use Rattle.plan_method.specs.Sweep.{only, also}
use Rattle.plan_method.proofs.Unions.{only_is, only_self, also_left, also_right}

-- on p + 1 … e
pub record NotAfter (w x : ℕ → Bool) (p e : ℕ) : Type 0 where
  pub at : (g : ℕ) → p < g → g ≤ e → ((h : ℕ) → p < h → h < g → x h ≡ w h) → x g ≡ true → w g ≡ true

-- x has no gap right after p
pub skip_before : {w x : ℕ → Bool} {p e : ℕ} → x (suc p) ≡ false → NotAfter w x (suc p) e → NotAfter w x p e
skip_before {w} {x} {p} {e} lacks k = record { at = λ g a b same h. go g a b same h (le_or g (suc p)) }
  where
    go : (g : ℕ) → p < g → g ≤ e → ((h : ℕ) → p < h → h < g → x h ≡ w h) → x g ≡ true → (g ≤ suc p) ⊎ (suc p < g) →
        w g ≡ true
    go g a b same h (inl z) =
        let y : g ≡ suc p = omega arith in
        never_both h (rw y lacks)
    go g a b same h (inr z) = k.at g z b (λ m i j. same m (omega arith) j) h

-- a gap right after p, before all gaps of w: only x with this gap is still to compare
pub put_before : {w x : ℕ → Bool} {p e : ℕ} → ((g : ℕ) → w g ≡ true → suc p < g) →
    (x (suc p) ≡ true → NotAfter w x (suc p) e) → NotAfter (also (only (suc p)) w) x p e
put_before {w} {x} {p} {e} low k = record { at = λ g a b same h. go g a b same h (le_or g (suc p)) }
  where
    y : ℕ → Bool
    y = also (only (suc p)) w

    here : y (suc p) ≡ true
    here = or_left (w (suc p)) (only_self (suc p))

    above : (g : ℕ) → suc p < g → y g ≡ w g
    above g a = also_right (only (suc p)) w g (λ z. omega (arith, only_is (suc p) g z))

    go : (g : ℕ) → p < g → g ≤ e → ((h : ℕ) → p < h → h < g → x h ≡ y h) → x g ≡ true → (g ≤ suc p) ⊎ (suc p < g) →
        y g ≡ true
    go g a b same h (inl z) =
        let v : g ≡ suc p = omega arith in
        rw v here
    go g a b same h (inr z) =
        above g z ∙ (k (same (suc p) (omega arith) z ∙ here)).at g z b (λ m i j. same m (omega arith) j ∙ above m i) h

-- what is laid for a child with the gaps l + 1 … p, before all gaps of w
pub join_before : {y w x : ℕ → Bool} {l p e : ℕ} → l ≤ p → ((g : ℕ) → y g ≡ true → g ≤ p) →
    ((g : ℕ) → w g ≡ true → p < g) → NotAfter y x l p → NotAfter w x p e → NotAfter (also y w) x l e
join_before {y} {w} {x} {l} {p} {e} fits high low j k =
    record { at = λ g a b same h. go g a b same h (le_or g p) }
  where
    in_child : (g : ℕ) → g ≤ p → also y w g ≡ y g
    in_child g a = also_left y w g (λ z. omega (arith, low g z))

    above : (g : ℕ) → p < g → also y w g ≡ w g
    above g a = also_right y w g (λ z. omega (arith, high g z))

    go : (g : ℕ) → l < g → g ≤ e → ((h : ℕ) → l < h → h < g → x h ≡ also y w h) → x g ≡ true → (g ≤ p) ⊎ (p < g) →
        also y w g ≡ true
    go g a b same h (inl z) = in_child g z ∙ j.at g a z (λ m i n. same m i n ∙ in_child m (omega arith)) h
    go g a b same h (inr z) = above g z ∙ k.at g z b (λ m i n. same m (omega arith) n ∙ above m i) h
