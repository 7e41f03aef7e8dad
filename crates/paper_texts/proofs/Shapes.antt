-- Shapes point by point: a point fits after others exactly where the rule of closing allows it, and points that are all
-- there have depth 0. So the points read so far can be told from what may still follow them.
-- Main statements: `closes_step`, `step_closes`, `depth_more`, `shape_closed`, `shape_follows`, `begins_more`,
-- `begins_closed`.
use mathlib.Core.Path.{◌≡◌, refl}
use mathlib.Core.Bool.{Bool, true, false, ◌&&◌}
use mathlib.Core.List.{List, [], ◌∷◌, ◌++◌, append_assoc, append-nil}
use Prim.Native.Nat.{ℕ, zero, suc, ◌-◌, ◌≤◌, ◌<◌}
use native.Mathlib.Omega.{arith}
use lib.Dec.{eqb, ltb, leb}
use lib.ListN.{length}
use borrow.Author.Tests.{ltb-true, leb-true, eqb-true, eqb-false, lt-ltb, le-leb, eq-eqb}
use Rattle.laws.specs.Choice.{pick}
use Rattle.laws.proofs.Tests.{never, and_intro, and_true}
use Rattle.paper_nests.specs.Kinds.{DO, ENDDO, STATEMENT, DEPTH}
use Rattle.paper_nests.specs.Loops.{deeper, depth_from, depth, is_closed}
use Rattle.paper_nests.specs.Valid.{closes, is_shape}
use Rattle.paper_texts.specs.Pieces.{is_point}

-- a point p at depth d, with r after it: a loop is open, p is a point, a DO is not too deep, and r closes what is open
pub record Fits (d p : ℕ) (r : List ℕ) : Type 0 where
  pub inside : 1 ≤ d
  pub point : is_point p ≡ true
  pub shallow : p ≡ DO → d < DEPTH
  pub rest : closes (deeper d p) r ≡ true

-- the rule of closing after a point p inside d loops and one more, by the tests whether p is a DO and an ENDDO
abbrev closes_by : Bool → Bool → ℕ → ℕ → List ℕ → Bool
closes_by a b d p r =
    pick
    a
    (ltb (suc d) DEPTH && closes (suc (suc d)) r)
    (pick b (closes d r) (eqb p STATEMENT && closes (suc d) r))

pub closes_step : (d p : ℕ) (r : List ℕ) → closes d (p ∷ r) ≡ true → Fits d p r
closes_step zero p r h = never h
closes_step (suc d) p r h = go (eqb p DO) (eqb p ENDDO) refl refl h
  where
    less : suc d - 1 ≡ d
    less = omega arith

    go
        : (a b : Bool)
        → eqb p DO ≡ a
        → eqb p ENDDO ≡ b
        → closes_by a b d p r ≡ true
        → Fits (suc d) p r
    go true b x y h =
        let z = and_true (ltb (suc d) DEPTH) (closes (suc (suc d)) r) h in
        let is = eqb-true p DO x in
        record {
          inside = omega arith;
          point = rw is;
          shallow = λ w. ltb-true (suc d) DEPTH z.0;
          rest = rw x z.1;
        }
    go false true x y h =
        let is = eqb-true p ENDDO y in
        record {
          inside = omega arith;
          point = rw is;
          shallow = λ w. absurd (eqb-false p DO x w);
          rest = rw (x, y, less) h;
        }
    go false false x y h =
        let z = and_true (eqb p STATEMENT) (closes (suc d) r) h in
        let is = eqb-true p STATEMENT z.0 in
        record {
          inside = omega arith;
          point = rw is;
          shallow = λ w. absurd (eqb-false p DO x w);
          rest = rw (x, y) z.1;
        }

pub step_closes : (d p : ℕ) (r : List ℕ) → Fits d p r → closes d (p ∷ r) ≡ true
step_closes zero p r h = absurd (omega (arith, h.inside))
step_closes (suc d) p r h = go (eqb p DO) (eqb p ENDDO) refl refl h.rest
  where
    less : suc d - 1 ≡ d
    less = omega arith

    go
        : (a b : Bool)
        → eqb p DO ≡ a
        → eqb p ENDDO ≡ b
        → closes (pick a (suc (suc d)) (pick b (suc d - 1) (suc d))) r ≡ true
        → closes_by a b d p r ≡ true
    go true b x y w = and_intro (lt-ltb (suc d) DEPTH (h.shallow (eqb-true p DO x))) w
    go false true x y w = rw less at w
    go false false x y w =
        let z = and_true (leb DO p) (leb p STATEMENT) h.point in
        let is : p ≡ STATEMENT =
        omega (
          arith,
          leb-true DO p z.0,
          leb-true p STATEMENT z.1,
          eqb-false p DO x,
          eqb-false p ENDDO y,
        ) in
        and_intro (eq-eqb p STATEMENT is) w

-- the depth after one point more
pub depth_from_more : (d : ℕ) (ps : List ℕ) (p : ℕ) → depth_from d (ps ++ (p ∷ [])) ≡ deeper (depth_from d ps) p
depth_from_more d [] p = refl
depth_from_more d (q ∷ ps) p = depth_from_more (deeper d q) ps p

pub depth_more : (ps : List ℕ) (p : ℕ) → depth (ps ++ (p ∷ [])) ≡ deeper (depth ps) p
depth_more ps p = depth_from_more 0 ps p

-- points that close what is open end at depth 0
pub closes_depth : (d : ℕ) (r : List ℕ) → closes d r ≡ true → depth_from d r ≡ 0
closes_depth zero [] h = refl
closes_depth (suc d) [] h = never h
closes_depth d (p ∷ r) h = closes_depth (deeper d p) r (closes_step d p r h).rest

pub shape_closed : (ps : List ℕ) → is_shape ps ≡ true → is_closed ps ≡ true
shape_closed [] h = never h
shape_closed (p ∷ ps) h =
    let z = and_true (eqb p DO) (closes 1 ps) h in
    let more = le-leb 1 (suc (length ps)) (omega arith) in
    rw z.0 (and_intro more (eq-eqb (depth_from 1 ps) 0 (closes_depth 1 ps z.1)))

-- what stands after some points closes the loops that they leave open
closes_through : (d : ℕ) (ps r : List ℕ) → closes d (ps ++ r) ≡ true → closes (depth_from d ps) r ≡ true
closes_through d [] r h = h
closes_through d (p ∷ ps) r h = closes_through (deeper d p) ps r (closes_step d p (ps ++ r) h).rest

-- a point p of a shape, right after the points ps
pub record Follows (ps : List ℕ) (p : ℕ) : Type 0 where
  pub point : is_point p ≡ true
  pub first : length ps ≡ 0 → p ≡ DO
  pub inside : 1 ≤ length ps → 1 ≤ depth ps
  pub shallow : p ≡ DO → depth ps < DEPTH

pub shape_follows : (ps : List ℕ) (p : ℕ) (r : List ℕ) → is_shape (ps ++ (p ∷ r)) ≡ true → Follows ps p
shape_follows [] p r h =
    let is = eqb-true p DO (and_true (eqb p DO) (closes 1 r) h).0 in
    record { point = rw is; first = λ z. is; inside = λ z. absurd (omega arith); shallow = λ z. omega arith }
shape_follows (q ∷ ps) p r h =
    let z = and_true (eqb q DO) (closes 1 (ps ++ (p ∷ r))) h in
    let deep : depth (q ∷ ps) ≡ depth_from 1 ps = rw z.0 in
    let f = closes_step (depth_from 1 ps) p r (closes_through 1 ps (p ∷ r) z.1) in
    record {
      point = f.point;
      first = λ e. absurd (omega arith);
      inside = λ e. omega (arith, f.inside);
      shallow = λ e. omega (arith, f.shallow e);
    }

-- points that begin a shape: what closes the loops that they leave open makes them one
pub record Begins (ps : List ℕ) : Type 0 where
  pub whole : (r : List ℕ) → 1 ≤ length ps → closes (depth ps) r ≡ true → is_shape (ps ++ r) ≡ true

pub begins_none : Begins []
begins_none = record { whole = λ r h c. absurd (omega arith) }

pub begins_first : Begins (DO ∷ [])
begins_first = record { whole = λ r h c. c }

pub begins_more
    : (ps : List ℕ) (p : ℕ)
    → Begins ps
    → 1 ≤ length ps
    → 1 ≤ depth ps
    → is_point p ≡ true
    → (p ≡ DO → depth ps < DEPTH)
    → Begins (ps ++ (p ∷ []))
begins_more ps p b some inside point shallow = record { whole = go }
  where
    go
        : (r : List ℕ)
        → 1 ≤ length (ps ++ (p ∷ []))
        → closes (depth (ps ++ (p ∷ []))) r ≡ true
        → is_shape (ps ++ (p ∷ []) ++ r) ≡ true
    go r h c =
        let rest : closes (deeper (depth ps) p) r ≡ true = rw (depth_more ps p) at c in
        let fits : Fits (depth ps) p r = record { inside = inside; point = point; shallow = shallow; rest = rest } in
        rw append_assoc (b.whole (p ∷ r) some (step_closes (depth ps) p r fits))

pub begins_closed : (ps : List ℕ) → Begins ps → is_closed ps ≡ true → is_shape ps ≡ true
begins_closed ps b h =
    let z = and_true (leb 1 (length ps)) (eqb (depth ps) 0) h in
    let zero_deep = eqb-true (depth ps) 0 z.1 in
    let end : closes (depth ps) [] ≡ true = rw zero_deep in
    rw append-nil at (b.whole [] (leb-true 1 (length ps) z.0) end)
