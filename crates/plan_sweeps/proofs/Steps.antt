-- A step over a child, case by case, and a turn of the sweep.
-- Main statements: `step_free`, `step_inner`, `step_outer`.
use mathlib.Core.Path.{◌≡◌, refl, ◌∙◌}
use mathlib.Core.Bool.{Bool, true, false, ◌&&◌}
use mathlib.Core.List.{List}
use Prim.Native.Nat.{ℕ, zero, suc, ◌+◌, ◌≤◌, ◌<◌}
use native.Mathlib.Numerals.{add-one}
use native.Mathlib.Omega.{arith}
use lib.Dec.{ltb, leb}
use borrow.Author.Tests.{lt-ltb, le-ltb, le-leb, eq-eqb, ne_eqb}
use Rattle.laws.specs.Choice.{pick, first_of}
use Rattle.laws.specs.Entries.{at}
use Rattle.plan_method.specs.Sweep.{st, seek, free, inner, outer, child_at, step_child}
use Rattle.plan_sweeps.specs.Listed.{row, laid, Stepped}

-- what `seek` finds lies above l and not above p
pub seek_high : (need : ℕ → ℕ) (f l p : ℕ) → seek need f l p ≤ p
unfolding seek
seek_high need f l zero = omega arith
seek_high need f l (suc p) = go (ltb l (suc p)) (ltb (need (suc p)) f) (seek_high need f l p)
  where
    go : (t u : Bool) → seek need f l p ≤ p → pick t (pick u (suc p) (seek need f l p)) 0 ≤ suc p
    go true true h = omega arith
    go true false h = omega arith
    go false true h = omega arith
    go false false h = omega arith

pub seek_low : (need : ℕ → ℕ) (f l p b : ℕ) → b ≡ seek need f l p → (b ≡ 0 → ⊥) → l < b
unfolding seek
seek_low need f l zero b e h = absurd (h e)
seek_low need f l (suc p) b e h =
    go (ltb l (suc p)) refl (ltb (need (suc p)) f) e (λ (z : b ≡ seek need f l p). seek_low need f l p b z h)
  where
    go
        : (t : Bool)
        → ltb l (suc p) ≡ t
        → (u : Bool)
        → b ≡ pick t (pick u (suc p) (seek need f l p)) 0
        → (b ≡ seek need f l p → l < b)
        → l < b
    go true z true e r = omega (arith, borrow.Author.Tests.ltb-true l (suc p) z)
    go true z false e r = r e
    go false z true e r = absurd (h e)
    go false z false e r = absurd (h e)

module _ (need left : List ℕ) (kids l p c f b : ℕ) (found : b ≡ seek (at need) f l (p + 1)) where
  pub step_at : (lay : ℕ → ℕ → Bool) (w : ℕ → Bool) → step_child (at need) (row left kids) lay l p (st c f w) ≡
      child_at (row left kids) lay l p (st c f w) b
  unfolding step_child
  step_at lay w = rw (found, add-one)

  pub step_free : (f' : ℕ) → b ≡ 0 → f' ≡ first_of (row left kids (l + 1)) f →
      Stepped need left kids l p c f c f' (l + 1)
  unfolding child_at free
  step_free f' z e =
      record {
        step_is = λ lay w. step_at lay w ∙ rw (eq-eqb b 0 z, le-ltb c c (omega arith), e, add-one);
        low = omega arith;
        high = λ h. omega arith;
        grows = omega arith;
      }

  pub step_inner : (b ≡ 0 → ⊥) → b ≤ p → 0 < row left kids b → Stepped need left kids l p c f c (row left kids b) b
  unfolding child_at inner
  step_inner z h g =
      record {
        step_is = λ lay w. step_at lay w ∙
            rw (ne_eqb b 0 z, le-leb b p h, lt-ltb 0 (row left kids b) g, le-ltb c c (omega arith));
        low = seek_low (at need) f l (p + 1) b found z;
        high = λ _. h;
        grows = omega arith;
      }

  pub step_outer : (f' : ℕ) → (b ≡ 0 → ⊥) → (b ≤ p → row left kids b ≤ 0) → f' ≡
      first_of (row left kids (l + 1)) (p + 1) → Stepped need left kids l p c f (c + 1) f' (l + 1)
  unfolding child_at outer
  step_outer f' z h e =
      record {
        step_is = λ lay w. step_at lay w ∙ rw (ne_eqb b 0 z) (go lay w (leb b p) refl);
        low = omega arith;
        high = λ h. omega arith;
        grows = omega arith;
      }
    where
      go : (lay : ℕ → ℕ → Bool) (w : ℕ → Bool) (t : Bool) → leb b p ≡ t
          → pick (t && ltb 0 (row left kids b)) (inner (row left kids) lay b (st c f w))
          (outer (row left kids) lay l p (st c f w)) ≡ st (c + 1) f' (laid (ltb c (c + 1)) p (lay (l + 1)) w)
      go lay w true y = rw (
        le-ltb 0 (row left kids b) (h (borrow.Author.Tests.leb-true b p y)),
        lt-ltb c (c + 1) (omega arith),
        e,
        add-one c,
        add-one l,
        add-one p,
      )
      go lay w false y = rw (lt-ltb c (c + 1) (omega arith), e, add-one c, add-one l, add-one p)
