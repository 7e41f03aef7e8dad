-- The dependences of a nest that is a part of another, moved along: they are placed well, and have the same gaps, moved
-- along.
-- Main statements: `dep_moved`, `deps_moved`, `gap_moved`, `gap_in_part`.
use mathlib.Core.Path.{◌≡◌, refl}
use mathlib.Core.Bool.{true, ◌&&◌, ◌||◌, not}
use mathlib.Core.List.{List, [], ◌∷◌}
use mathlib.Core.Logic.{inl, inr, ⊎_elim}
use Prim.Native.Nat.{ℕ, suc, ◌+◌, ◌<◌}
use native.Mathlib.Omega.{arith}
use lib.Dec.{eqb, ltb, leb}
use lib.ListN.{length, get_or}
use borrow.Author.Tests.{ltb-true, lt-ltb, leb-true, le-leb, eqb-true}
use Rattle.laws.specs.Choice.{between}
use Rattle.laws.proofs.Ranges.{in_between}
use Rattle.laws.proofs.Tests.{and_intro, and_true, or-true, bool_by}
use Rattle.paper_nests.specs.Kinds.{DO, ENDDO, STATEMENT, INDEPENDENT, CARRIED}
use Rattle.paper_nests.specs.Nests.{Dep}
use Rattle.paper_nests.specs.Loops.{is_do, end_of, in_loop}
use Rattle.paper_nests.specs.Gaps.{has_gap}
use Rattle.paper_nests.specs.Valid.{is_source, is_target, names_points, runs_right, is_of_kind, is_dep, are_deps}
use Rattle.paper_nests.proofs.Deps.{Fits, target_and_loop, line_gap}
use Rattle.paper_nests.proofs.Loops.{end_there}
use Rattle.call_join.specs.JointNests.{moved_dep, moved_deps}
use Rattle.call_join.proofs.Parts.{Part, do_moved, end_moved, inside_moved}

-- between two numbers, all moved along
leb_moved : (k a b : ℕ) → leb (k + a) (k + b) ≡ leb a b
leb_moved k a b =
    bool_by (leb (k + a) (k + b)) (leb a b)
    (λ h. le-leb a b (omega (arith, leb-true (k + a) (k + b) h)))
    (λ h. le-leb (k + a) (k + b) (omega (arith, leb-true a b h)))

between_moved : (k a x b : ℕ) → between (suc (k + a)) (k + x) (k + b) ≡ between (suc a) x b
between_moved k a x b =
    let z : suc (k + a) ≡ k + suc a = omega arith in
    rw (z, leb_moved k (suc a) x, leb_moved k x b)

module _ (ps qs : List ℕ) (k : ℕ) (part : Part ps qs k) where
  -- a source, a target
  source_moved : (s : ℕ) → is_source ps s ≡ true → is_source qs (k + s) ≡ true
  source_moved s h =
      let sort = eqb (get_or ps s 0) STATEMENT || eqb (get_or ps s 0) DO in
      let z = and_true (ltb s (length ps)) sort h in
      let l = ltb-true s (length ps) z.0 in
      and_intro (lt-ltb (k + s) (length qs) (omega (arith, part.there))) (rw (part.same s l) z.1)

  target_moved : (t : ℕ) → is_target ps t ≡ true → is_target qs (k + t) ≡ true
  target_moved t h =
      let sort = eqb (get_or ps t 0) STATEMENT || eqb (get_or ps t 0) ENDDO in
      let z = and_true (ltb t (length ps)) sort h in
      let l = ltb-true t (length ps) z.0 in
      and_intro (lt-ltb (k + t) (length qs) (omega (arith, part.there))) (rw (part.same t l) z.1)

  -- a dependence between points of the part, independent or carried
  module _ (e : Dep) (names : names_points ps e ≡ true) (right : runs_right ps e ≡ true) where
    source : is_source qs (k + e.s) ≡ true
    source =
        let carrier = not (eqb e.kind CARRIED) || is_do ps e.d in
        source_moved e.s (and_true (is_source ps e.s) (is_target ps e.t && carrier) names).0

    target : is_target qs (k + e.t) ≡ true
    target = target_moved e.t (target_and_loop ps e names right).0

    line_moved : e.kind ≡ INDEPENDENT → eqb e.d 0 ≡ true → is_dep qs (moved_dep k e) ≡ true
    line_moved kind none =
        let l : e.s < e.t = ltb-true e.s e.t (rw kind at right) in
        rw (kind, none)
        (and_intro (and_intro source (and_intro target refl)) (lt-ltb (k + e.s) (k + e.t) (omega arith)))

    back_moved : e.kind ≡ CARRIED → is_dep qs (moved_dep k e) ≡ true
    back_moved kind =
        let d : is_do ps e.d ≡ true = rw kind at (target_and_loop ps e names right).1 in
        let i : (in_loop ps e.d e.s && in_loop ps e.d e.t) ≡ true = rw kind at right in
        rw kind
        (and_intro
        (and_intro source (and_intro target (do_moved ps qs k part e.d d)))
        (rw (inside_moved ps qs k part e.d e.s d, inside_moved ps qs k part e.d e.t d) i))

  pub dep_moved : (e : Dep) → is_dep ps e ≡ true → is_dep qs (moved_dep k e) ≡ true
  dep_moved e h =
      let a = and_true (is_of_kind e) (names_points ps e && runs_right ps e) h in
      let b = and_true (names_points ps e) (runs_right ps e) a.1 in
      ⊎_elim
      (λ (z : (eqb e.kind INDEPENDENT && eqb e.d 0) ≡ true).
      let y = and_true (eqb e.kind INDEPENDENT) (eqb e.d 0) z in
      line_moved e b.0 b.1 (eqb-true e.kind INDEPENDENT y.0) y.1)
      (λ (z : eqb e.kind CARRIED ≡ true). back_moved e b.0 b.1 (eqb-true e.kind CARRIED z))
      (or-true (eqb e.kind INDEPENDENT && eqb e.d 0) (eqb e.kind CARRIED) a.0)

  pub deps_moved : (es : List Dep) → are_deps ps es ≡ true → are_deps qs (moved_deps k es) ≡ true
  deps_moved [] h = h
  deps_moved (e ∷ es) h =
      let z = and_true (is_dep ps e) (are_deps ps es) h in
      and_intro (dep_moved e z.0) (deps_moved es z.1)

  pub gap_moved : (e : Dep) (g : ℕ) → Fits ps e → has_gap qs (moved_dep k e) (k + g) ≡ has_gap ps e g
  gap_moved e g (inl l) = rw l.kind_is (between_moved k e.s g e.t)
  gap_moved e g (inr b) =
      rw (
        b.kind_is,
        end_moved ps qs k part e.d b.loop,
        between_moved k e.d g e.t,
        between_moved k e.s g (end_of ps e.d),
      )

  -- every gap of it is a gap of the part
  pub gap_in_part : (e : Dep) (g : ℕ) → Fits ps e → has_gap qs (moved_dep k e) g ≡ true → (k < g) × (g < k + length ps)
  gap_in_part e g (inl l) h =
      let z = line_gap qs (moved_dep k e) g l.kind_is h in
      (omega (arith, z.0), omega (arith, z.1, l.target_there))
  gap_in_part e g (inr b) h =
      let h' : (between (suc (k + e.d)) g (k + e.t) || between (suc (k + e.s)) g (end_of qs (k + e.d))) ≡ true =
      rw b.kind_is at h in
      let end = end_there ps part.shape e.d b.loop in
      ⊎_elim
      (λ (z : between (suc (k + e.d)) g (k + e.t) ≡ true).
      let y = in_between (suc (k + e.d)) g (k + e.t) z in
      (omega (arith, y.0), omega (arith, y.1, b.target_before)))
      (λ (z : between (suc (k + e.s)) g (end_of qs (k + e.d)) ≡ true).
      let y = in_between (suc (k + e.s)) g (end_of qs (k + e.d)) z in
      (omega (arith, y.0), omega (arith, y.1, end_moved ps qs k part e.d b.loop)))
      (or-true (between (suc (k + e.d)) g (k + e.t)) (between (suc (k + e.s)) g (end_of qs (k + e.d))) h')
