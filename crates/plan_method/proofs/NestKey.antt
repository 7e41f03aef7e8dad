-- The planner's theorem of a nest itself: the computed key cuts every dependence, and at each loop where a placement
-- that cuts every dependence has the key's counts in all the loops inside, that placement has at least as many gaps.
-- Main definition: `NestKey`. Main statement: `nest_key`.
use mathlib.Core.Path.{◌≡◌}
use mathlib.Core.Bool.{Bool, true}
use mathlib.Core.List.{List}
use Prim.Native.Nat.{ℕ, ◌≤◌, ◌<◌}
use native.Mathlib.Omega.{arith}
use lib.ListN.{length}
use Rattle.laws.specs.Members.{Among}
use Rattle.paper_nests.specs.Nests.{Dep}
use Rattle.paper_nests.specs.Loops.{is_do, end_of}
use Rattle.paper_nests.specs.Valid.{is_shape}
use Rattle.paper_nests.proofs.Levels.{starts_with_do, point_in}
use Rattle.paper_nests.proofs.Loops.{outermost}
use Rattle.plan_method.specs.Home.{loops_in, lines_in, key_in}
use Rattle.plan_method.proofs.Claim.{count}
use Rattle.plan_method.proofs.Theorem.{Key, computed_key}
use Rattle.plan_method.proofs.Instance.{world_of, AllFit, lawful}
use Rattle.plan_method.proofs.Cuts.{Cut, in_outermost, cuts_sound, sound_cuts}

pub record NestKey (ps : List ℕ) (ds : List Dep) (x : ℕ → Bool) : Type 0 where
  pub low : (g : ℕ) → x g ≡ true → 0 < g
  pub high : (g : ℕ) → x g ≡ true → g < length ps
  pub cuts : (e : Dep) → Among e ds → Cut ps e x
  pub least :
      (y : ℕ → Bool) (d : ℕ) → ((e : Dep) → Among e ds → Cut ps e y) → is_do ps d ≡ true →
      ((l : ℕ) → is_do ps l ≡ true → d < l → l < end_of ps d → count (loops_in ps) y l ≡ count (loops_in ps) x l) →
      count (loops_in ps) x d ≤ count (loops_in ps) y d

pub nest_key : (ps : List ℕ) (ds : List Dep) → is_shape ps ≡ true → AllFit ps ds → NestKey ps ds (key_in ps ds)
unfolding key_in
nest_key ps ds w fit =
    let k = computed_key (world_of ps ds) (lines_in ps ds) (lawful ps ds w fit) (length ps) (starts_with_do ps w) below in
    of_key (key_in ps ds) k
  where
    below : (d : ℕ) → is_do ps d ≡ true → d < length ps
    below d h = point_in ps d 0 h

    of_key : (x : ℕ → Bool) → Key (world_of ps ds) 0 x → NestKey ps ds x
    of_key x k =
        record {
          low = k.low;
          high = λ g h. omega (arith, k.high g h, outermost ps w);
          cuts = sound_cuts ps ds x w fit k.sound;
          least = λ y d cut h same.
              k.least y d (cuts_sound ps ds y cut 0) (in_outermost ps w d h) (λ l i j. same l i.is-do j i.below);
        }
