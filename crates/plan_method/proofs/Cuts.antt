-- A placement cuts every dependence of a nest exactly if it is sound at the outermost loop of the nest's world.
-- Main definition: `Cut`. Main statements: `in_outermost`, `cuts_sound`, `sound_cuts`.
use mathlib.Core.Path.{◌≡◌, refl, ap}
use mathlib.Core.Bool.{Bool, true}
use mathlib.Core.List.{List}
use mathlib.Core.Logic.{◌⊎◌, inl, inr, ⊎_elim}
use Prim.Native.Nat.{ℕ, suc, ◌≤◌, ◌<◌}
use native.Mathlib.Omega.{arith}
use Rattle.laws.specs.Members.{Among}
use Rattle.paper_nests.specs.Nests.{Dep}
use Rattle.paper_nests.specs.Loops.{is_do, end_of, owner_from}
use Rattle.paper_nests.specs.Gaps.{has_gap}
use Rattle.paper_nests.specs.Valid.{is_shape}
use Rattle.paper_nests.proofs.Loops as L
use Rattle.paper_nests.proofs.Gaps as G
use Rattle.paper_nests.proofs.Deps as D
use Rattle.plan_method.specs.Home.{loops_in}
use Rattle.plan_method.proofs.World.{Inside}
use Rattle.plan_method.proofs.Claim.{Hit, Sound}
use Rattle.plan_method.proofs.Instance.{LineAt, BackAt, world_of, AllFit}

-- x holds a gap of e
pub record Cut (ps : List ℕ) (e : Dep) (x : ℕ → Bool) : Type 0 where
  pub gap : ℕ
  pub of : has_gap ps e gap ≡ true
  pub holds : x gap ≡ true

-- every loop of a nest is the outermost one or lies inside it
pub in_outermost : (ps : List ℕ) → is_shape ps ≡ true → (d : ℕ) → is_do ps d ≡ true → Inside (loops_in ps) 0 d
in_outermost ps w d h =
    let l : d < end_of ps 0 = omega (arith, L.end-after ps w d h, L.end_in_outermost ps w d h) in
    record { is-do = h; from = omega arith; below = l }

module _ (ps : List ℕ) (ds : List Dep) (x : ℕ → Bool) where
  -- a placement that cuts every dependence is sound at every loop
  pub cuts_sound : ((e : Dep) → Among e ds → Cut ps e x) → (d : ℕ) → Sound (world_of ps ds) x d
  cuts_sound cut d = record { lines = lines; backs = backs }
    where
      lines : (l a b : ℕ) → Inside (loops_in ps) d l → LineAt ps ds l a b → Hit x a b
      lines l a b i y =
          let c = cut y.e y.among in
          let z = D.line_gap ps y.e c.gap y.kind_is c.of in
          record { gap = c.gap; low = omega (arith, y.starts); high = omega (arith, y.ends); holds = c.holds }

      backs : (l a t : ℕ) → Inside (loops_in ps) d l → BackAt ps ds l a t → Hit x (suc l) t ⊎ Hit x a (end_of ps l)
      backs l a t i y = ⊎_elim
          (λ (z : (y.e.d < c.gap) × (c.gap ≤ y.e.t)).
          let p : suc l ≤ c.gap = omega (arith, y.home_is) in
          inl (record { gap = c.gap; low = p; high = omega (arith, y.ends); holds = c.holds }))
          (λ (z : (y.e.s < c.gap) × (c.gap ≤ end_of ps y.e.d)).
          let p : a ≤ c.gap = omega (arith, y.starts) in
          inr (record { gap = c.gap; low = p; high = omega (arith, same); holds = c.holds }))
          (D.back_gap ps y.e c.gap y.kind_is c.of)
        where
          same : end_of ps y.e.d ≡ end_of ps l
          same = ap (end_of ps) y.home_is

          c : Cut ps y.e x
          c = cut y.e y.among

  -- a placement that is sound at the outermost loop cuts every dependence
  pub sound_cuts :
      is_shape ps ≡ true → AllFit ps ds → Sound (world_of ps ds) x 0 → (e : Dep) → Among e ds → Cut ps e x
  sound_cuts w fit sound e a = go (fit e a)
    where
      line : D.Line ps e → Cut ps e x
      line l =
          let o = G.home_law ps w e.s e.t l.target_there in
          let h = owner_from (suc e.s) e.t ps in
          let y : LineAt ps ds h (suc e.s) e.t =
          record { e = e; among = a; kind_is = l.kind_is; home_is = refl; starts = refl; ends = refl } in
          let z : Hit x (suc e.s) e.t = sound.lines h (suc e.s) e.t (in_outermost ps w h o.loop) y in
          record { gap = z.gap; of = D.gap_of_line ps e z.gap l.kind_is z.low z.high; holds = z.holds }

      back : D.Back ps e → Cut ps e x
      back b = ⊎_elim
          (λ (z : Hit x (suc e.d) e.t).
          let g = D.gap_before_target ps e z.gap b.kind_is z.low z.high in
          record { gap = z.gap; of = g; holds = z.holds })
          (λ (z : Hit x (suc e.s) (end_of ps e.d)).
          let g = D.gap_after_source ps e z.gap b.kind_is z.low z.high in
          record { gap = z.gap; of = g; holds = z.holds })
          (sound.backs e.d (suc e.s) e.t (in_outermost ps w e.d b.loop) y)
        where
          y : BackAt ps ds e.d (suc e.s) e.t
          y = record { e = e; among = a; kind_is = b.kind_is; home_is = refl; starts = refl; ends = refl }

      go : D.Fits ps e → Cut ps e x
      go (inl l) = line l
      go (inr b) = back b
