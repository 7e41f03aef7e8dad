-- The set of a step, and what leads it.
-- Main statements: `fits_dep`, `led-by`, `set_dep`.
use mathlib.Core.Path.{◌≡◌, refl, ◌∙◌}
use Rattle.std.proofs.Common.{Some}
use mathlib.Core.Bool.{Bool, false, ◌&&◌}
use mathlib.Core.List.{List}
use Prim.Native.Nat.{ℕ, zero, suc, ◌-◌}
use native.Mathlib.Omega.{arith}
use lib.Dec.{ltb}
use lib.ListN.{length}
use Rattle.laws.proofs.Connectives.{or_off}
use Rattle.paper_nests.specs.Gaps.{has_gap}
use Rattle.paper_nests.specs.Stored.{dep_in}
use Rattle.paper_placements.specs.Words.{holds}
use Rattle.paper_gaps.specs.Lies.{EndsIn, GapsPut}
use Rattle.argue_texts.specs.declared.Claimed as DC
use Rattle.argue_texts.specs.declared.Set.TheVariants as SV
use Rattle.argue_weigh.specs.declared.Open as DO
use Rattle.argue_weigh.specs.declared.Ended as DX
use Rattle.argue_weigh.specs.declared.Asked as DA
use Rattle.argue_weigh.specs.Taking.{claim_at, set_fits, IsSetOf, leads_on, led_at}

module _ (o : DO.Open) (s : DA.Asked) (none ws : List ℕ) (empty : (g : ℕ) → holds none g ≡ false) where
  pub set_dep
      : {k : ℕ} {x : DX.Ended}
      → s.set ≡ SV.Dependence k
      → s.dependence ≡ Some x
      → GapsPut x.end x.e none ws
      → IsSetOf o s ws
  set_dep {k} {x} p q h ps ends g =
      let end : EndsIn ps x.e x.end = rw q at (ends k (rw p refl)) in
      h ps end g ∙ rw (p, q, empty g) (or_off (has_gap ps (dep_in x.e) g))

-- a dependence's set fits where the dependence is there
pub fits_dep : (o : DO.Open) (there : Bool) (i : ℕ) → (i ≡ 0 → ⊥) → (i ≡ 1 → ⊥) → there ≡ set_fits o there i
fits_dep o there zero p q = absurd (p refl)
fits_dep o there (suc zero) p q = absurd (q refl)
fits_dep o there (suc (suc m)) p q = refl

-- what leads, where the number is not 0, is the claim one before it
pub led-by
    : (o : DO.Open) (claims : List DC.Claimed) (by : ℕ)
    → (by ≡ 0 → ⊥)
    → led_at o claims by ≡ (ltb (by - 1) (length claims) && leads_on o (claim_at claims (by - 1)))
led-by o claims zero h = absurd (h refl)
led-by o claims (suc m) h =
    let z : suc m - 1 ≡ m = omega arith in
    rw z refl
