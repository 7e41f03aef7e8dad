-- Parts by their kinds: what a part without fault has, and the refusal of one that is not known.
-- Main statements: `claims_fine`, `by_fine`, `names_fine`, `unknown_fault`.
use mathlib.Core.Path.{◌≡◌, refl}
use mathlib.Core.Bool.{Bool, true, false, ◌||◌, not}
use Prim.Native.Nat.{ℕ, ◌<◌}
use native.Mathlib.Omega.{arith}
use lib.Dec.{eqb, leb}
use borrow.Author.Tests.{eqb-true, eqb-false, leb-false}
use Rattle.laws.specs.Choice.{when, first_of}
use Rattle.laws.proofs.Choices.{first_zero, when_zero, unless_zero}
use Rattle.argue_texts.specs.declared.Claimed.{Claimed}
use Rattle.argue_texts.specs.declared.Set as DS
use Rattle.argue_texts.specs.declared.Part as DP
use Rattle.argue_texts.specs.declared.Part.TheVariants as PV
use Rattle.argue_texts.specs.ArgumentTexts.{Progress, part_fault, CLAIMS, STEPS}
use Rattle.argue_texts.specs.Parts.{part_in}

module _ (x : Progress) (p : DP.Part) where
  pub claims_fine : {c : Claimed} → p ≡ PV.Claims c → part_fault x (part_in p) ≡ 0 → (x.by ≡ 0) × (x.claims < CLAIMS)
  claims_fine e h =
      let f : first_of (when (not (eqb x.by 0)) 4) (when (leb CLAIMS x.claims) 5) ≡ 0 = rw e at h in
      let z = first_zero (when (not (eqb x.by 0)) 4) (when (leb CLAIMS x.claims) 5) f in
      let room = leb-false CLAIMS x.claims (when_zero (leb CLAIMS x.claims) 4 z.1) in
      (eqb-true x.by 0 (unless_zero (eqb x.by 0) 3 z.0), omega (arith, room))

  pub by_fine : {m : ℕ} → p ≡ PV.By m → part_fault x (part_in p) ≡ 0 → (0 < x.claims) × (x.by ≡ 0)
  by_fine e h = go (eqb x.claims 0) refl (eqb x.by 0) refl (rw e at h)
    where
      go
          : (t : Bool)
          → eqb x.claims 0 ≡ t
          → (u : Bool)
          → eqb x.by 0 ≡ u
          → when (t || not u) 4 ≡ 0
          → (0 < x.claims) × (x.by ≡ 0)
      go true f u d q = absurd (omega (arith, q))
      go false f true d q = let z = eqb-false x.claims 0 f in (omega (arith, z), eqb-true x.by 0 d)
      go false f false d q = absurd (omega (arith, q))

  pub names_fine : {s : DS.Set} → p ≡ PV.Names s → part_fault x (part_in p) ≡ 0 → (0 < x.claims) × (x.steps < STEPS)
  names_fine e h =
      let f : first_of (when (eqb x.claims 0) 4) (when (leb STEPS x.steps) 5) ≡ 0 = rw e at h in
      let z = first_zero (when (eqb x.claims 0) 4) (when (leb STEPS x.steps) 5) f in
      let some = eqb-false x.claims 0 (when_zero (eqb x.claims 0) 3 z.0) in
      let room = leb-false STEPS x.steps (when_zero (leb STEPS x.steps) 4 z.1) in
      (omega (arith, some), omega (arith, room))

  pub unknown_fault : p ≡ PV.Unknown → 2 ≡ part_fault x (part_in p)
  unknown_fault e = rw e
