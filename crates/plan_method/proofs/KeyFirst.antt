-- Of all the placements that cut every dependence of a nest with the key's count at every loop, the key is the first in
-- list order: at the first gap where the two differ, the key has the gap.
-- Main statement: `nest_first`.
use mathlib.Core.Path.{◌≡◌}
use mathlib.Core.Bool.{Bool, true}
use mathlib.Core.List.{List}
use Prim.Native.Nat.{ℕ, ◌<◌}
use native.Mathlib.Omega.{arith}
use lib.ListN.{length}
use Rattle.laws.specs.Members.{Among}
use Rattle.paper_nests.specs.Nests.{Dep}
use Rattle.paper_nests.specs.Loops.{is_do, end_of}
use Rattle.paper_nests.specs.Valid.{is_shape}
use Rattle.paper_nests.proofs.Levels.{starts_with_do, point_in}
use Rattle.paper_nests.proofs.Loops.{outermost}
use Rattle.plan_method.specs.Home.{loops_in, lines_in, key_in}
use Rattle.plan_method.proofs.Claim.{count}
use Rattle.plan_method.proofs.Instance.{world_of, AllFit, lawful}
use Rattle.plan_method.proofs.Cuts.{Cut, cuts_sound}
use Rattle.plan_method.proofs.FirstPlaces.{NotAfter}
use Rattle.plan_method.proofs.FirstLoop.{computed_first}

module _ (ps : List ℕ) (ds : List Dep) (shape : is_shape ps ≡ true) (fit : AllFit ps ds) (y : ℕ → Bool) where
  -- up to the ENDDO of the outermost loop, which is the last point
  not_after : ((e : Dep) → Among e ds → Cut ps e y) →
      ((l : ℕ) → is_do ps l ≡ true → count (loops_in ps) y l ≡ count (loops_in ps) (key_in ps ds) l) →
      NotAfter (key_in ps ds) y 0 (end_of ps 0)
  unfolding key_in
  not_after cuts same =
      computed_first (world_of ps ds) (lines_in ps ds) (lawful ps ds shape fit) (length ps) (starts_with_do ps shape)
      (λ d h. point_in ps d 0 h) y (cuts_sound ps ds y cuts 0) (λ l i. same l i.is-do)

  pub nest_first : ((e : Dep) → Among e ds → Cut ps e y) →
      ((l : ℕ) → is_do ps l ≡ true → count (loops_in ps) y l ≡ count (loops_in ps) (key_in ps ds) l) →
      (g : ℕ) → 0 < g → g < length ps → ((h : ℕ) → 0 < h → h < g → y h ≡ key_in ps ds h) → y g ≡ true →
      key_in ps ds g ≡ true
  nest_first cuts same g low high agree h =
      (not_after cuts same).at g low (omega (arith, outermost ps shape)) agree h
