-- The pass over the dependences, from the last to the first: those passed are in the tables.
-- Main definition: `Collecting`, what a turn keeps. Main statements: `collect_start`, `fits_here`, `collect_on`.
use mathlib.Core.Path.{◌≡◌, refl, ◌∙◌}
use mathlib.Core.List.{List, [], ◌∷◌}
use Prim.Native.Nat.{ℕ, zero, suc, ◌-◌, ◌≤◌, ◌<◌}
use native.Mathlib.Omega.{arith}
use lib.ListN.{length, get_or, drop, drop_of_length-le}
use Rattle.laws.proofs.Members.{among_drop}
use Rattle.paper_nests.specs.Nests.{Dep}
use Rattle.paper_nests.specs.declared.Dependence as DE
use Rattle.paper_nests.specs.declared.Nest as DN
use Rattle.paper_nests.specs.Stored.{dep_in, deps_in, nest_in, IsCounted}
use Rattle.paper_nests.proofs.Stored.{deps_in_at}
use Rattle.paper_nests.proofs.Deps.{Fits}
use Rattle.plan_method.proofs.Instance.{AllFit}
use Rattle.plan_method.specs.Home.{least_end, reach_of, has_at}
use Rattle.plan_tables.specs.Charts.{cell}
use Rattle.plan_tables.specs.Collected.{back_of, Collected, Entered, LinesRoom, Blank}
use Rattle.plan_tables.proofs.Cells.{Tall}
use Rattle.plan_tables.proofs.Entering.{cell_there}

-- with no dependence every cell holds n and no loop is a home
collect_none :
    {ps heights reach back has : List ℕ} → Tall ps heights → Blank (length ps) reach back has →
    Collected ps [] heights reach back has
unfolding reach_of back_of has_at least_end
collect_none {heights = heights} w blank =
    record {
      reach_is = λ d q h l m. blank.reach_is (cell heights d q) (cell_there w d q h l m);
      back_is = λ d q h l m. blank.back_is (cell heights d q) (cell_there w d q h l m);
      has_is = λ d h. blank.has_is d;
    }

-- the dependences from the i-th on are in the tables, which are as long as at the start
pub record Collecting
    (ps : List ℕ)
    (ds : List Dep)
    (heights reach₀ back₀ has₀ : List ℕ)
    (i : ℕ)
    (reach back has : List ℕ)
    : Type 0 where
  pub here : i ≤ length ds
  pub rest : Collected ps (drop i ds) heights reach back has
  pub room : LinesRoom reach back has
  pub reach_length : length reach ≡ length reach₀
  pub back_length : length back ≡ length back₀
  pub has_length : length has ≡ length has₀

-- what a list of dependences has past its end
abbrev no_dependence : DE.Dependence
no_dependence = record { kind = 0; d = 0; s = 0; t = 0 }

-- the first n dependences of an array are there
deps_there : (n : ℕ) (xs : List DE.Dependence) → length (deps_in n xs) ≤ length xs
deps_there zero xs = omega arith
deps_there (suc n) [] = omega arith
deps_there (suc n) (x ∷ xs) = omega (arith, deps_there n xs)

module _ {nest : DN.Nest} (counted : IsCounted nest) where
  abbrev ds : List Dep
  ds = (nest_in nest).deps

  pub collect_start :
      {ps heights reach back has : List ℕ} → Tall ps heights → LinesRoom reach back has →
      Blank (length ps) reach back has → Collecting ps ds heights reach back has nest.many reach back has
  collect_start {ps} {heights} {reach} {back} {has} w room blank =
      record {
        here = omega (arith, counted.many_is);
        rest = rw (drop_of_length-le ds at_end) (collect_none w blank);
        room = room;
        reach_length = refl;
        back_length = refl;
        has_length = refl;
      }
    where
      at_end : length ds ≤ nest.many
      at_end = omega (arith, counted.many_is)

  module _
      {ps heights reach₀ back₀ has₀ : List ℕ} {i : ℕ} {reach back has : List ℕ}
      (p : Collecting ps ds heights reach₀ back₀ has₀ i reach back has)
    where
      module _ (l : 0 < i) where
        -- the dependence that is entered next
        abbrev e : Dep
        e = dep_in (get_or nest.deps (i - 1) no_dependence)

        here_is : drop (i - 1) ds ≡ e ∷ drop i ds
        here_is =
            let z : suc (i - 1) ≡ i = omega arith in
            rw z at (deps_in_at nest.many nest.deps (i - 1) no_dependence
            (omega (arith, p.here, counted.many_is))
            (omega (arith, p.here, deps_there nest.many nest.deps)))

        pub fits_here : AllFit ps ds → Fits ps e
        fits_here f = f e (among_drop e ds (drop i ds) (i - 1) here_is)

        pub collect_on :
            {reach' back' has' : List ℕ} → length reach' ≡ length reach → length back' ≡ length back →
            length has' ≡ length has → Entered ps heights e reach back has reach' back' has' →
            Collecting ps ds heights reach₀ back₀ has₀ (i - 1) reach' back' has'
        collect_on a b c f =
            record {
              here = omega (arith, p.here);
              rest = rw here_is (f (drop i ds) p.rest);
              room =
                  record {
                    reach_room = omega (arith, p.room.reach_room);
                    limit_room = omega (arith, p.room.limit_room);
                    has_room = omega (arith, p.room.has_room);
                  };
              reach_length = a ∙ p.reach_length;
              back_length = b ∙ p.back_length;
              has_length = c ∙ p.has_length;
            }
