-- The gaps that are tried as a first barrier: the unbarred gaps of the ring.
-- Main definition: `Tried`. Main statements: `is_tried`, `tried_is`.
use mathlib.Core.Path.{◌≡◌, sym, ◌∙◌}
use mathlib.Core.Bool.{true}
use mathlib.Core.List.{List}
use Prim.Native.Nat.{ℕ, suc, ◌≤◌, ◌<◌}
use native.Mathlib.Omega.{arith}
use Rattle.laws.specs.Choice.{is_in}
use Rattle.paper_placements.specs.Words.{gaps_of}
use Rattle.paper_placements.proofs.Rising.{rising_in}
use Rattle.paper_placements.proofs.Words.{gaps_of_in, gaps_of_rising}
use Rattle.paper_placements.specs.Placements.{is_free}

-- g is an unbarred gap of a ring of m
pub record Tried (bs : List ℕ) (m g : ℕ) : Type 0 where
  pub first : 0 < g
  pub inside : g ≤ m
  pub free : is_free bs g ≡ true

module _ (bs : List ℕ) (m g : ℕ) where
  pub is_tried : Tried bs m g → is_in g (gaps_of (is_free bs) m 1) ≡ true
  is_tried t = gaps_of_in (is_free bs) m 1 g (omega (arith, t.first)) (omega (arith, t.inside)) ∙ t.free

  pub tried_is : is_in g (gaps_of (is_free bs) m 1) ≡ true → Tried bs m g
  tried_is h =
      let up = gaps_of_rising (is_free bs) (suc m) m 1 0 (λ i a b c. (omega arith, omega arith)) in
      let r = rising_in 0 (suc m) (gaps_of (is_free bs) m 1) g up h in
      record {
        first = r.0;
        inside = omega (arith, r.1);
        free = sym (gaps_of_in (is_free bs) m 1 g (omega (arith, r.0)) (omega (arith, r.1))) ∙ h;
      }
