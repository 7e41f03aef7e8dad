-- Levels: the depth after some points, and what a well shaped list of points says of it.
-- Main definition: `lev`. Main statements: `lev_step`, `lev_up`, `lev_down`, `lev_same`, `lev_inside`, `lev_deep`,
-- `lev_last`, `last_below`.
use mathlib.Core.Path.{◌≡◌, refl, ◌∙◌}
use mathlib.Core.Bool.{Bool, true, false, ◌&&◌}
use mathlib.Core.List.{List, [], ◌∷◌}
use mathlib.Core.Logic.{◌⊎◌, inl, inr, ⊎_elim}
use Prim.Native.Nat.{ℕ, zero, suc, ◌-◌, ◌≤◌, ◌<◌}
use native.Mathlib.Omega.{arith}
use lib.Dec.{eqb, ltb}
use lib.ListN.{length, get_or, take}
use borrow.Author.Tests.{ltb-true, eqb-true}
use Rattle.laws.specs.Choice.{pick}
use Rattle.laws.proofs.Tests.{never, le_or, and_true}
use Rattle.paper_nests.specs.Kinds.{DO, ENDDO, STATEMENT, DEPTH}
use Rattle.paper_nests.specs.Loops.{is_do, is_end, deeper, depth_from, depth}
use Rattle.paper_nests.specs.Valid.{closes, is_shape}

-- the depth after the first i points
unfoldable pub lev : List ℕ → ℕ → ℕ
lev ps i = depth_from 0 (take i ps)

pub lev_depth : (ps : List ℕ) (i : ℕ) → lev ps i ≡ depth (take i ps)
unfolding lev
lev_depth ps i = refl

-- one point more, from any depth
depth_step : (d : ℕ) (ps : List ℕ) (i : ℕ) →
    depth_from d (take (suc i) ps) ≡ deeper (depth_from d (take i ps)) (get_or ps i 0)
depth_step d [] zero = refl
depth_step d [] (suc i) = refl
depth_step d (p ∷ ps) zero = refl
depth_step d (p ∷ ps) (suc i) = depth_step (deeper d p) ps i

pub lev_step : (ps : List ℕ) (i : ℕ) → lev ps (suc i) ≡ deeper (lev ps i) (get_or ps i 0)
unfolding lev
lev_step ps i = depth_step 0 ps i

pub lev_zero : (ps : List ℕ) → lev ps 0 ≡ 0
unfolding lev
lev_zero ps = refl

-- a point of a kind other than 0 is there
pub point_in : (ps : List ℕ) (i k : ℕ) → eqb (get_or ps i 0) (suc k) ≡ true → i < length ps
point_in [] i k h =
    let z : 0 ≡ suc k = eqb-true 0 (suc k) h in
    absurd (omega arith)
point_in (p ∷ ps) zero k h = omega arith
point_in (p ∷ ps) (suc i) k h = omega (arith, point_in ps i k h)

-- how the level changes at a DO, an ENDDO, another point
pub lev_up : (ps : List ℕ) (i : ℕ) → is_do ps i ≡ true → lev ps (suc i) ≡ suc (lev ps i)
lev_up ps i h = lev_step ps i ∙ rw h

pub lev_down : (ps : List ℕ) (i : ℕ) → is_end ps i ≡ true → lev ps (suc i) ≡ lev ps i - 1
lev_down ps i h = let z : get_or ps i 0 ≡ 2 = eqb-true (get_or ps i 0) 2 h in lev_step ps i ∙ rw z

pub lev_same : (ps : List ℕ) (i : ℕ) → is_do ps i ≡ false → is_end ps i ≡ false → lev ps (suc i) ≡ lev ps i
lev_same ps i h k = lev_step ps i ∙ rw (h, k)

-- the rest of the points of a nest at depth d, by cases on the first: what `closes` says of it
data First (d p : ℕ) (ps : List ℕ) : Type 0 where
  opens : p ≡ DO → suc d < DEPTH → closes (suc (suc d)) ps ≡ true → First d p ps
  shuts : p ≡ ENDDO → closes d ps ≡ true → First d p ps
  plain : p ≡ STATEMENT → closes (suc d) ps ≡ true → First d p ps

first_of : (d p : ℕ) (ps : List ℕ) → closes (suc d) (p ∷ ps) ≡ true → First d p ps
first_of d p ps h = go (eqb p DO) (eqb p ENDDO) refl refl h
  where
    go :
        (a b : Bool) → eqb p DO ≡ a → eqb p ENDDO ≡ b →
        pick
        a
        (ltb (suc d) DEPTH && closes (suc (suc d)) ps)
        (pick b (closes d ps) (eqb p STATEMENT && closes (suc d) ps)) ≡
        true → First d p ps
    go true b x y k =
        let z = and_true (ltb (suc d) DEPTH) (closes (suc (suc d)) ps) k in
        opens (eqb-true p DO x) (ltb-true (suc d) DEPTH z.0) z.1
    go false true x y k = shuts (eqb-true p ENDDO y) k
    go false false x y k =
        let z = and_true (eqb p STATEMENT) (closes (suc d) ps) k in
        plain (eqb-true p STATEMENT z.0) z.1

-- of the rest of the points: above 0 before its end, 0 at its end, at most 8 throughout
record Rest (d : ℕ) (ps : List ℕ) : Type 0 where
  inside : (i : ℕ) → i < length ps → 0 < depth_from d (take i ps)
  last : depth_from d (take (length ps) ps) ≡ 0
  deep : d ≤ DEPTH → (i : ℕ) → depth_from d (take i ps) ≤ DEPTH

rest_end : Rest 0 []
rest_end = record {
  inside = λ i l. absurd (omega arith);
  last = refl;
  deep = elim_deep;
}
  where
    elim_deep : 0 ≤ DEPTH → (i : ℕ) → depth_from 0 (take i []) ≤ DEPTH
    elim_deep h zero = h
    elim_deep h (suc i) = h

rest_cons :
    (d e p : ℕ) (ps : List ℕ) → deeper (suc d) p ≡ e → (suc d ≤ DEPTH → e ≤ DEPTH) → Rest e ps → Rest (suc d) (p ∷ ps)
rest_cons d e p ps q b r = record { inside = inside; last = last; deep = deep }
  where
    last : depth_from (deeper (suc d) p) (take (length ps) ps) ≡ 0
    last = rw q r.last

    inside : (i : ℕ) → i < length (p ∷ ps) → 0 < depth_from (suc d) (take i (p ∷ ps))
    inside zero l = omega arith
    inside (suc i) l =
        let z : 0 < depth_from (deeper (suc d) p) (take i ps) = rw q (r.inside i (omega arith)) in
        z

    deep : suc d ≤ DEPTH → (i : ℕ) → depth_from (suc d) (take i (p ∷ ps)) ≤ DEPTH
    deep h zero = h
    deep h (suc i) =
        let z : depth_from (deeper (suc d) p) (take i ps) ≤ DEPTH = rw q (r.deep (b h) i) in
        z

rest_of : (d : ℕ) (ps : List ℕ) → closes d ps ≡ true → Rest d ps
rest_of zero [] h = rest_end
rest_of zero (p ∷ ps) h = never h
rest_of (suc d) [] h = never h
rest_of (suc d) (p ∷ ps) h = go (first_of d p ps h) (rest_of (suc (suc d)) ps) (rest_of d ps) (rest_of (suc d) ps)
  where
    go :
        First d p ps → (closes (suc (suc d)) ps ≡ true → Rest (suc (suc d)) ps) → (closes d ps ≡ true → Rest d ps) →
        (closes (suc d) ps ≡ true → Rest (suc d) ps) → Rest (suc d) (p ∷ ps)
    go (opens e u c) a b s = rest_cons d (suc (suc d)) p ps (rw e) (λ z. omega arith) (a c)
    go (shuts e c) a b s =
        let z : suc d - 1 ≡ d = omega arith in
        rest_cons d d p ps (rw e z) (λ z. omega arith) (b c)
    go (plain e c) a b s = rest_cons d (suc d) p ps (rw e) (λ z. z) (s c)

-- a well shaped list of points: it begins with a DO, and the rest closes
record Whole (ps : List ℕ) : Type 0 where
  starts : is_do ps 0 ≡ true
  inside : (i : ℕ) → 0 < i → i < length ps → 0 < lev ps i
  last : lev ps (length ps) ≡ 0
  deep : (i : ℕ) → lev ps i ≤ DEPTH

whole : (ps : List ℕ) → is_shape ps ≡ true → Whole ps
unfolding lev
whole [] h = never h
whole (p ∷ ps) h = go (and_true (eqb p DO) (closes 1 ps) h)
  where
    go : (eqb p DO ≡ true) × (closes 1 ps ≡ true) → Whole (p ∷ ps)
    go z = record { starts = z.0; inside = inside; last = last; deep = deep }
      where
        q : p ≡ 1
        q = eqb-true p 1 z.0

        r : Rest 1 ps
        r = rest_of 1 ps z.1

        last : depth_from (deeper 0 p) (take (length ps) ps) ≡ 0
        last = rw q r.last

        inside : (i : ℕ) → 0 < i → i < length (p ∷ ps) → 0 < depth_from 0 (take i (p ∷ ps))
        inside zero l m = absurd (omega arith)
        inside (suc i) l m =
            let z : 0 < depth_from (deeper 0 p) (take i ps) = rw q (r.inside i (omega arith)) in
            z

        deep : (i : ℕ) → depth_from 0 (take i (p ∷ ps)) ≤ DEPTH
        deep zero = omega arith
        deep (suc i) =
            let z : depth_from (deeper 0 p) (take i ps) ≤ DEPTH = rw q (r.deep (omega arith) i) in
            z

module _ (ps : List ℕ) (shape : is_shape ps ≡ true) where
  pub starts_with_do : is_do ps 0 ≡ true
  starts_with_do = (whole ps shape).starts

  -- 0 at both ends, at least 1 between them
  pub lev_inside : (i : ℕ) → 0 < i → i < length ps → 0 < lev ps i
  lev_inside i = (whole ps shape).inside i

  pub lev_last : lev ps (length ps) ≡ 0
  lev_last = (whole ps shape).last

  -- 01, "Text": loops 8 deep
  pub lev_deep : (i : ℕ) → lev ps i ≤ DEPTH
  lev_deep i = (whole ps shape).deep i

  -- an ENDDO is not the first point
  pub end_not_first : (e : ℕ) → is_end ps e ≡ true → 0 < e
  end_not_first zero h =
      let a : get_or ps 0 0 ≡ 1 = eqb-true (get_or ps 0 0) 1 starts_with_do in
      let b : get_or ps 0 0 ≡ 2 = eqb-true (get_or ps 0 0) 2 h in
      absurd (omega arith)
  end_not_first (suc e) h = omega arith

  pub lev_falls : (e : ℕ) → is_end ps e ≡ true → suc (lev ps (suc e)) ≡ lev ps e
  lev_falls e h = omega (arith, lev_down ps e h, lev_inside e (end_not_first e h) (point_in ps e 1 h))

-- a point where the level rises is a DO
pub do_where_rises : (ps : List ℕ) (i : ℕ) → lev ps i < lev ps (suc i) → is_do ps i ≡ true
do_where_rises ps i h = go (is_do ps i) (is_end ps i) refl refl
  where
    go : (a b : Bool) → is_do ps i ≡ a → is_end ps i ≡ b → is_do ps i ≡ true
    go true b x y = x
    go false true x y = absurd (omega (arith, lev_down ps i y))
    go false false x y = absurd (omega (arith, lev_same ps i x y))

-- the last place before g at which f is below k
pub record Last (f : ℕ → ℕ) (k g : ℕ) : Type 0 where
  pub at : ℕ
  pub before : at < g
  pub low : f at < k
  pub after : (j : ℕ) → at < j → j < g → k ≤ f j

pub last_below : (f : ℕ → ℕ) (k g : ℕ) → f 0 < k → 0 < g → Last f k g
last_below f k zero h l = absurd (omega arith)
last_below f k (suc zero) h l = record { at = 0; before = l; low = h; after = λ j a b. absurd (omega arith) }
last_below f k (suc (suc g)) h l = go (le_or k (f (suc g))) (last_below f k (suc g) h (omega arith))
  where
    go : (k ≤ f (suc g)) ⊎ (f (suc g) < k) → Last f k (suc g) → Last f k (suc (suc g))
    go (inl a) r = record { at = r.at; before = omega (arith, r.before); low = r.low; after = after }
      where
        after : (j : ℕ) → r.at < j → j < suc (suc g) → k ≤ f j
        after j b c = ⊎_elim
            (λ (z : j ≤ g). r.after j b (omega arith))
            (λ (z : g < j). let e : j ≡ suc g = omega arith in rw e a)
            (le_or j g)
    go (inr a) r = record { at = suc g; before = omega arith; low = a; after = λ j b c. absurd (omega arith) }
