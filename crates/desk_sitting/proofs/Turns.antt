-- The turn of a move: the dependence that the code reads before i, and the test that it has the gap.
-- Main statements: `turn_of`, `gap_told`.
use mathlib.Core.Path.{◌≡◌}
use mathlib.Core.Bool.{Bool, true, false}
use mathlib.Core.List.{List, [], ◌∷◌}
use mathlib.Core.Logic.{inl, inr}
use Prim.Native.Nat.{ℕ, zero, suc, ◌-◌, ◌<◌}
use native.Mathlib.Omega.{arith}
use lib.ListN.{get_or, drop}
use Rattle.laws.proofs.Tests.{and_true}
use Rattle.paper_nests.specs.declared.Dependence as DE
use Rattle.paper_nests.specs.declared.Nest as DN
use Rattle.paper_nests.specs.Kinds.{INDEPENDENT}
use Rattle.paper_nests.specs.Nests.{Dep}
use Rattle.paper_nests.specs.Loops.{is_around}
use Rattle.paper_nests.specs.Gaps.{has_gap}
use Rattle.paper_nests.specs.Valid.{is_dep, are_deps}
use Rattle.paper_nests.specs.Stored.{dep_in, nest_in}
use Rattle.paper_nests.proofs.Deps.{Fits, dep_fits, valid_is}
use Rattle.paper_nests.proofs.Stored.{deps_in_at, counted_many}
use Rattle.desk_sitting.specs.declared.Sitting as DS
use Rattle.desk_sitting.specs.Around.{AreAround, GapSays}
use Rattle.desk_sitting.specs.Kept.{barriers, Ready}
use Rattle.desk_sitting.proofs.Moving.{Moving, Turn}

-- each dependence of a list of them is placed well
fits_at
    : (ps : List ℕ) (ds : List Dep) (i : ℕ) (e : Dep) (es : List Dep)
    → are_deps ps ds ≡ true
    → drop i ds ≡ e ∷ es
    → Fits ps e
fits_at ps [] zero e es h q = let z : ◌≡◌ {A = ℕ} 0 1 = cc q in absurd (omega arith)
fits_at ps [] (suc i) e es h q = let z : ◌≡◌ {A = ℕ} 0 1 = cc q in absurd (omega arith)
fits_at ps (x ∷ xs) zero e es h q =
    let z : x ≡ e = cc q in
    rw z at (dep_fits ps x (and_true (is_dep ps x) (are_deps ps xs) h).0)
fits_at ps (x ∷ xs) (suc i) e es h q = fits_at ps xs i e es (and_true (is_dep ps x) (are_deps ps xs) h).1 q

-- dependence i as the code reads it
abbrev pub dep_at : DN.Nest → ℕ → DE.Dependence
dep_at n i = get_or n.deps i (record { kind = 0; d = 0; s = 0; t = 0 })

module _
    {nest : DN.Nest} {s : DS.Sitting} {g : ℕ} {after : List ℕ} {i : ℕ} {counts : List ℕ} {uncut : ℕ}
    (ready : Ready nest s g) (some : 0 < i) (m : Moving (nest_in nest) (barriers s) after i counts uncut)
  where
    there : i - 1 < nest.many
    there = omega (arith, m.within, ready.counted.many_is)

    here
        : drop (i - 1) (nest_in nest).deps ≡ dep_in (dep_at nest (i - 1)) ∷ drop (suc (i - 1)) (nest_in nest).deps
    here =
        deps_in_at nest.many nest.deps (i - 1) (record { kind = 0; d = 0; s = 0; t = 0 }) there
        (counted_many nest ready.counted)

    pub turn_of : Turn (nest_in nest) (barriers s) after i counts uncut (dep_in (dep_at nest (i - 1)))
    turn_of =
        record {
          some = some;
          moving = m;
          few = omega (arith, ready.counted.many_is, ready.counted.many_fits);
          here = here;
        }

    -- the test, with the table's entry for the loop that carries the dependence
    pub gap_told
        : (table : List Bool) (r : Bool)
        → AreAround (nest_in nest).points g table
        → GapSays (dep_at nest (i - 1)) g (get_or table (dep_at nest (i - 1)).d false) r
        → r ≡ has_gap (nest_in nest).points (dep_in (dep_at nest (i - 1))) g
    gap_told table r around says = says (nest_in nest).points (carried fits)
      where
        fits : Fits (nest_in nest).points (dep_in (dep_at nest (i - 1)))
        fits =
            fits_at
            (nest_in nest).points
            (nest_in nest).deps
            (i - 1)
            (dep_in (dep_at nest (i - 1)))
            (drop (suc (i - 1)) (nest_in nest).deps)
            (valid_is (nest_in nest) ready.valid).all-deps
            here

        carried
            : Fits (nest_in nest).points (dep_in (dep_at nest (i - 1)))
            → ((dep_at nest (i - 1)).kind ≡ INDEPENDENT → ⊥)
            → ((dep_at nest (i - 1)).d < (dep_at nest (i - 1)).s) ×
            (get_or table (dep_at nest (i - 1)).d false ≡ is_around (nest_in nest).points g (dep_at nest (i - 1)).d)
        carried (inl l) k = absurd (k l.kind_is)
        carried (inr b) k = (b.source_after, around (dep_at nest (i - 1)).d b.loop)
