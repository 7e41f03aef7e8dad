-- How deep points go, where a nest stands at depth 1 before other points: one deeper than alone, and the points close
-- as before if that is within the limit.
-- Main statements: `shape_deepest`, `deepest_before`, `closes_before`.
use mathlib.Core.Path.{◌≡◌, refl}
use mathlib.Core.Bool.{Bool, true, false}
use mathlib.Core.List.{List, [], ◌∷◌, ◌++◌}
use Prim.Native.Nat.{ℕ, zero, suc, ◌+◌, ◌-◌, ◌≤◌, ◌<◌, max}
use native.Mathlib.Omega.{arith}
use lib.Dec.{eqb}
use borrow.Author.Tests.{eqb-true}
use Rattle.laws.specs.Choice.{pick}
use Rattle.laws.proofs.Tests.{never, and_true}
use Rattle.paper_nests.specs.Kinds.{DO, ENDDO, DEPTH}
use Rattle.paper_nests.specs.Loops.{deeper}
use Rattle.paper_nests.specs.Valid.{closes, is_shape}
use Rattle.paper_texts.proofs.Shapes.{closes_step, step_closes}
use Rattle.call_join.specs.JointNests.{deepest_from, deepest}

-- one point more, k levels deeper
pub deeper_moved : (k d p : ℕ) → 1 ≤ d → deeper (k + d) p ≡ k + deeper d p
deeper_moved k d p h = go (eqb p DO) (eqb p ENDDO)
  where
    go : (a b : Bool) → pick a (suc (k + d)) (pick b (k + d - 1) (k + d)) ≡ k + pick a (suc d) (pick b (d - 1) d)
    go true b = omega arith
    go false true = omega arith
    go false false = refl

-- at least as deep as at the start
pub start_deepest : (d : ℕ) (ps : List ℕ) → d ≤ deepest_from d ps
start_deepest d [] = omega arith
start_deepest d (p ∷ ps) = omega arith

-- points that close go no deeper than the limit
closes_deepest : (d : ℕ) (ps : List ℕ) → closes d ps ≡ true → d ≤ DEPTH → deepest_from d ps ≤ DEPTH
closes_deepest d [] h l = l
closes_deepest d (p ∷ ps) h l =
    let f = closes_step d p ps h in
    let u : deeper d p ≤ DEPTH = within (eqb p DO) (eqb p ENDDO) refl f.shallow in
    omega (arith, closes_deepest (deeper d p) ps f.rest u)
  where
    within : (a b : Bool) → eqb p DO ≡ a → (p ≡ DO → d < DEPTH) → pick a (suc d) (pick b (d - 1) d) ≤ DEPTH
    within true b e s = s (eqb-true p DO e)
    within false true e s = omega arith
    within false false e s = l

pub shape_deepest : (ps : List ℕ) → is_shape ps ≡ true → deepest ps ≤ DEPTH
shape_deepest [] h = never h
shape_deepest (p ∷ ps) h =
    let z = and_true (eqb p DO) (closes 1 ps) h in
    rw (eqb-true p DO z.0) (omega (arith, closes_deepest 1 ps z.1 (omega arith)))

-- points that close, k levels deeper and before others
deepest_over
    : (k d : ℕ) (ps r : List ℕ)
    → closes d ps ≡ true
    → deepest_from (k + d) (ps ++ r) ≡ max (k + deepest_from d ps) (deepest_from k r)
deepest_over k zero [] r h =
    let z : k + 0 ≡ k = omega arith in
    rw z (omega (arith, start_deepest k r))
deepest_over k (suc d) [] r h = never h
deepest_over k d (p ∷ ps) r h =
    let f = closes_step d p ps h in
    rw (deeper_moved k d p f.inside) (omega (arith, deepest_over k (deeper d p) ps r f.rest))

closes_over
    : (k d : ℕ) (ps r : List ℕ)
    → closes d ps ≡ true
    → closes k r ≡ true
    → k + deepest_from d ps ≤ DEPTH
    → closes (k + d) (ps ++ r) ≡ true
closes_over k zero [] r h c l =
    let z : k + 0 ≡ k = omega arith in
    rw z c
closes_over k (suc d) [] r h c l = never h
closes_over k d (p ∷ ps) r h c l =
    let f = closes_step d p ps h in
    step_closes (k + d) p (ps ++ r)
    record {
      inside = omega (arith, f.inside);
      point = f.point;
      shallow = λ e. (
          let z : deeper d p ≡ suc d = rw e in
          omega (arith, start_deepest (deeper d p) ps));
      rest = rw (deeper_moved k d p f.inside) (closes_over k (deeper d p) ps r f.rest c (omega arith));
    }

-- a nest at depth 1, before other points
module _ (ps r : List ℕ) (shape : is_shape ps ≡ true) where
  pub deepest_before : deepest_from 1 (ps ++ r) ≡ max (suc (deepest ps)) (deepest_from 1 r)
  deepest_before = go ps shape
    where
      go : (ps : List ℕ) → is_shape ps ≡ true → deepest_from 1 (ps ++ r) ≡ max (suc (deepest ps)) (deepest_from 1 r)
      go [] h = never h
      go (p ∷ ps) h =
          let z = and_true (eqb p DO) (closes 1 ps) h in
          rw (eqb-true p DO z.0) (omega (arith, deepest_over 1 1 ps r z.1, start_deepest 1 ps))

  pub closes_before : closes 1 r ≡ true → suc (deepest ps) ≤ DEPTH → closes 1 (ps ++ r) ≡ true
  closes_before c = go ps shape
    where
      go : (ps : List ℕ) → is_shape ps ≡ true → suc (deepest ps) ≤ DEPTH → closes 1 (ps ++ r) ≡ true
      go [] h l = never h
      go (p ∷ ps) h l =
          let z = and_true (eqb p DO) (closes 1 ps) h in
          let q : p ≡ DO = eqb-true p DO z.0 in
          let l' : suc (deepest (DO ∷ ps)) ≤ DEPTH = rw q at l in
          rw q (closes_over 1 1 ps r z.1 c (omega arith))
