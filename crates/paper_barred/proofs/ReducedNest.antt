-- The nest of the unbarred gaps: it is valid where no dependence has all its gaps barred, and a placement that avoids
-- barred gaps leaves the same dependences uncut as its ranks do there.
-- Main statements: `none_shut`, `reduced_valid`, `uncut_ranked`, `no_gap_no_dep`.
use mathlib.Core.Path.{◌≡◌, refl, ap}
use mathlib.Core.Bool.{true, false}
use mathlib.Core.List.{List, [], ◌∷◌}
use mathlib.Core.Logic.{inl, inr, ⊎_elim}
use Prim.Native.Nat.{ℕ, zero, suc, ◌-◌, ◌≤◌, ◌<◌}
use native.Mathlib.Omega.{arith}
use lib.ListN.{length}
use Rattle.laws.specs.Members.{Among}
use Rattle.laws.proofs.Tests.{and_intro, or_false}
use Rattle.paper_nests.specs.Kinds.{POINTS, DEPENDENCES}
use Rattle.paper_nests.specs.Nests.{Dep}
use Rattle.paper_nests.specs.Ring.{one_loop}
use Rattle.paper_nests.specs.Valid.{is_shape, are_deps, is_valid}
use Rattle.paper_nests.proofs.Deps.{Fits, is-valid}
use Rattle.paper_nests.proofs.Levels.{starts_with_do}
use Rattle.paper_nests.proofs.Loops.{end-after, outermost}
use Rattle.paper_placements.specs.Placements.{uncut_from, are_gaps_from, avoids}
use Rattle.paper_barred.specs.Ranks.{rank, ranks}
use Rattle.paper_barred.specs.Reduced.{is_shut, some_shut, ring_points, reduced_deps, reduced}
use Rattle.paper_barred.proofs.Ranks.{rank_le}
use Rattle.paper_barred.proofs.RingPoints.{ring_length, ring_shape}
use Rattle.paper_barred.proofs.Reduced.{Open, open_there, cuts_ranked, ring_some, reduced_is_dep}

-- where none has all its gaps barred, each has one that is not
pub none_shut
    : (ps bs : List ℕ) (ds : List Dep) → some_shut ps bs ds ≡ false → (e : Dep) → Among e ds → Open ps bs e
none_shut ps bs [] h e a = absurd a
none_shut ps bs (x ∷ xs) h e a =
    let z = or_false (is_shut ps bs x) (some_shut ps bs xs) h in
    ⊎_elim
    (λ (q : e ≡ x). rw q (open_there ps bs x z.0))
    (λ (q : Among e xs). none_shut ps bs xs z.1 e q)
    a

pub reduced_length : (bs : List ℕ) (m : ℕ) (ds : List Dep) → length (reduced_deps bs m ds) ≡ length ds
reduced_length bs m [] = refl
reduced_length bs m (e ∷ es) = ap suc (reduced_length bs m es)

-- two points at least, and no more than there were
ring_few : (m k : ℕ) → m ≤ k → 0 < k → length (ring_points m) ≤ suc k
ring_few zero k l f = omega arith
ring_few (suc m) k l f = omega (arith, ring_length (suc m) (omega arith))

module _ (ps bs : List ℕ) (shape : is_shape ps ≡ true) (one : one_loop ps ≡ true) where
  abbrev top : ℕ
  top = rank bs (length ps - 1)

  reduced-deps
      : (ds : List Dep)
      → ((e : Dep) → Among e ds → Fits ps e)
      → ((e : Dep) → Among e ds → Open ps bs e)
      → are_deps (ring_points (rank bs (length ps - 1))) (reduced_deps bs (rank bs (length ps - 1)) ds) ≡ true
  reduced-deps [] fits opens = refl
  reduced-deps (e ∷ es) fits opens =
      and_intro
      (reduced_is_dep ps bs e shape one (fits e (inl refl)) (opens e (inl refl)))
      (reduced-deps es (λ x a. fits x (inr a)) (λ x a. opens x (inr a)))

  pub reduced_valid
      : (ds : List Dep)
      → length ps ≤ POINTS
      → length ds ≤ DEPENDENCES
      → ((e : Dep) → Among e ds → Fits ps e)
      → some_shut ps bs ds ≡ false
      → is_valid (reduced ps bs ds) ≡ true
  reduced_valid ds few many fits h =
      is-valid (reduced ps bs ds)
      (record {
        shape = ring_shape top;
        few_points = omega (arith, points);
        few_deps = omega (arith, reduced_length bs top ds);
        all-deps = reduced-deps ds fits (none_shut ps bs ds h);
        few_bars = omega arith;
        all_bars = refl;
        all_flags = refl;
      })
    where
      points : length (ring_points (rank bs (length ps - 1))) ≤ length ps
      points =
          let some = end-after ps shape 0 (starts_with_do ps shape) in
          let all = outermost ps shape in
          omega (arith, ring_few top (length ps - 1) (rank_le bs (length ps - 1)) (omega arith))

  -- the same dependences are uncut
  pub uncut_ranked
      : (i : ℕ) (ds : List Dep) (gs : List ℕ)
      → ((e : Dep) → Among e ds → Fits ps e)
      → are_gaps_from 0 (suc (length ps - 1)) gs ≡ true
      → avoids bs gs ≡ true
      → uncut_from i
      (ring_points (rank bs (length ps - 1)))
      (reduced_deps bs (rank bs (length ps - 1)) ds)
      (ranks bs gs) ≡
      uncut_from i ps ds gs
  uncut_ranked i [] gs fits h v = refl
  uncut_ranked i (e ∷ es) gs fits h v =
      rw (
        cuts_ranked ps bs e shape one (fits e (inl refl)) 0 gs h v,
        uncut_ranked (suc i) es gs (λ x a. fits x (inr a)) h v,
      )

  -- without an unbarred gap there is no dependence
  pub no_gap_no_dep
      : (ds : List Dep)
      → ((e : Dep) → Among e ds → Fits ps e)
      → some_shut ps bs ds ≡ false
      → rank bs (length ps - 1) ≡ 0
      → ds ≡ []
  no_gap_no_dep [] fits h z = refl
  no_gap_no_dep (e ∷ es) fits h z =
      absurd
      (omega (
        arith,
        ring_some ps bs e shape one (fits e (inl refl)) (none_shut ps bs (e ∷ es) h e (inl refl)),
      ))
