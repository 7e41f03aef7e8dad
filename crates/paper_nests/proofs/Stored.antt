-- Laws of the nest as the code stores it: what one more point, dependence, barred gap or flagged DO makes of it, its
-- dependences one by one.
-- Main statements: `point_added`, `dependence_added`, `bar_added`, `flagged_added`, `deps_in_length`, `deps_in_map`,
-- `deps_in_at`, `counted_many`, `counted_points`, `counted_bars`.
use mathlib.Core.Path.{◌≡◌, refl, ap}
use mathlib.Core.List.{List, [], ◌∷◌, ◌++◌, map}
use Prim.Native.Nat.{ℕ, zero, suc, ◌+◌, ◌≤◌, ◌<◌}
use native.Mathlib.Numerals.{add-one}
use native.Mathlib.Omega.{arith}
use lib.ListN.{length, take, drop, set, get_or, length-append, length-take}
use lib.Seq.{take-suc-set, length-take-le}
use Rattle.paper_nests.specs.declared.Dependence as DE
use Rattle.paper_nests.specs.declared.Nest as DN
use Rattle.paper_nests.specs.Kinds.{DO, POINTS, DEPENDENCES, BARS}
use Rattle.paper_nests.specs.Nests.{Dep}
use Rattle.paper_nests.specs.Stored.{dep_in, deps_in, IsCounted, PointAdded, DependenceAdded, BarAdded, FlaggedAdded}

-- the first dependences are as many as asked
pub deps_in_length : (n : ℕ) (xs : List DE.Dependence) → n ≤ length xs → length (deps_in n xs) ≡ n
deps_in_length zero xs h = refl
deps_in_length (suc n) [] h = absurd (omega arith)
deps_in_length (suc n) (x ∷ xs) h = ap suc (deps_in_length n xs (omega arith))

-- they are those of the array's first entries, one by one
pub deps_in_map : (n : ℕ) (xs : List DE.Dependence) → map dep_in (take n xs) ≡ deps_in n xs
deps_in_map zero xs = refl
deps_in_map (suc n) [] = refl
deps_in_map (suc n) (x ∷ xs) = ap (λ (l : List Dep). dep_in x ∷ l) (deps_in_map n xs)

-- a dependence put right after the first n
pub deps_in_more
    : (n : ℕ) (xs : List DE.Dependence) (e : DE.Dependence)
    → n < length xs
    → deps_in (suc n) (set xs n e) ≡ deps_in n xs ++ (dep_in e ∷ [])
deps_in_more zero [] e h = absurd (omega arith)
deps_in_more zero (x ∷ xs) e h = refl
deps_in_more (suc n) [] e h = absurd (omega arith)
deps_in_more (suc n) (x ∷ xs) e h = ap (λ (l : List Dep). dep_in x ∷ l) (deps_in_more n xs e (omega arith))

-- the dependence at i stands in front of the rest
pub deps_in_at
    : (n : ℕ) (xs : List DE.Dependence) (i : ℕ) (z : DE.Dependence)
    → i < n
    → n ≤ length xs
    → drop i (deps_in n xs) ≡ dep_in (get_or xs i z) ∷ drop (suc i) (deps_in n xs)
deps_in_at zero xs i z h k = absurd (omega arith)
deps_in_at (suc n) [] i z h k = absurd (omega arith)
deps_in_at (suc n) (x ∷ xs) zero z h k = refl
deps_in_at (suc n) (x ∷ xs) (suc i) z h k = deps_in_at n xs i z (omega arith) (omega arith)

-- counts that are right lie within the arrays
many_within : (n : ℕ) (xs : List DE.Dependence) → n ≡ length (deps_in n xs) → n ≤ length xs
many_within zero xs h = omega arith
many_within (suc n) [] h = absurd (omega arith)
many_within (suc n) (x ∷ xs) h = let z = many_within n xs (omega arith) in omega arith

pub counted_many : (n : DN.Nest) → IsCounted n → n.many ≤ length n.deps
counted_many n p = many_within n.many n.deps p.many_is

pub counted_points : (n : DN.Nest) → IsCounted n → n.count ≤ length n.points
counted_points n p = omega (arith, p.count_is, length-take n.count n.points)

pub counted_bars : (n : DN.Nest) → IsCounted n → n.bars ≤ length n.barred
counted_bars n p = omega (arith, p.bars_is, length-take n.bars n.barred)

module _ (n : DN.Nest) (p : IsCounted n) where
  abbrev pub with-point : ℕ → DN.Nest
  with-point k =
      record {
        count = n.count + 1;
        points = set n.points n.count k;
        many = n.many;
        deps = n.deps;
        bars = n.bars;
        barred = n.barred;
        flags = n.flags;
        flagged = n.flagged;
      }

  points_more
      : (k : ℕ)
      → n.count < POINTS
      → length n.points ≡ POINTS
      → take (n.count + 1) (set n.points n.count k) ≡ take n.count n.points ++ (k ∷ [])
  points_more k h e = rw add-one (take-suc-set n.points n.count k (omega arith))

  pub point_added : (k : ℕ) → n.count < POINTS → length n.points ≡ POINTS → PointAdded n k (with-point k)
  point_added k h e =
      let pts = points_more k h e in
      record {
        nest_is = rw pts;
        one_more = refl;
        same_many = refl;
        same_bars = refl;
        same_flags = refl;
        counted =
            record {
              count_is =
                  rw
                  pts
                  (omega (
                    arith,
                    length-append (take n.count n.points) (k ∷ []),
                    length-take-le n.count n.points (omega arith),
                  ));
              count_fits = omega arith;
              many_is = p.many_is;
              many_fits = p.many_fits;
              bars_is = p.bars_is;
              bars_fit = p.bars_fit;
              flags_is = p.flags_is;
              flags_fit = omega (arith, p.flags_fit);
            };
      }

  abbrev pub with_dependence : DE.Dependence → DN.Nest
  with_dependence e =
      record {
        count = n.count;
        points = n.points;
        many = n.many + 1;
        deps = set n.deps n.many e;
        bars = n.bars;
        barred = n.barred;
        flags = n.flags;
        flagged = n.flagged;
      }

  pub dependence_added
      : (e : DE.Dependence)
      → n.many < DEPENDENCES
      → length n.deps ≡ DEPENDENCES
      → DependenceAdded n e (with_dependence e)
  dependence_added e h l =
      let ds : deps_in (n.many + 1) (set n.deps n.many e) ≡ deps_in n.many n.deps ++ (dep_in e ∷ []) =
      rw add-one (deps_in_more n.many n.deps e (omega arith)) in
      record {
        nest_is = rw ds;
        same_count = refl;
        one_more = refl;
        same_bars = refl;
        same_flags = refl;
        counted =
            record {
              count_is = p.count_is;
              count_fits = p.count_fits;
              many_is =
                  rw
                  ds
                  (omega (
                    arith,
                    length-append (deps_in n.many n.deps) (dep_in e ∷ []),
                    deps_in_length n.many n.deps (omega arith),
                  ));
              many_fits = omega arith;
              bars_is = p.bars_is;
              bars_fit = p.bars_fit;
              flags_is = p.flags_is;
              flags_fit = p.flags_fit;
            };
      }

  abbrev pub with-bar : ℕ → DN.Nest
  with-bar g =
      record {
        count = n.count;
        points = n.points;
        many = n.many;
        deps = n.deps;
        bars = n.bars + 1;
        barred = set n.barred n.bars g;
        flags = n.flags;
        flagged = n.flagged;
      }

  pub bar_added : (g : ℕ) → n.bars < BARS → length n.barred ≡ BARS → BarAdded n g (with-bar g)
  bar_added g h e =
      let bs : take (n.bars + 1) (set n.barred n.bars g) ≡ take n.bars n.barred ++ (g ∷ []) =
      rw add-one (take-suc-set n.barred n.bars g (omega arith)) in
      record {
        nest_is = rw bs;
        same_count = refl;
        same_many = refl;
        one_more = refl;
        same_flags = refl;
        counted =
            record {
              count_is = p.count_is;
              count_fits = p.count_fits;
              many_is = p.many_is;
              many_fits = p.many_fits;
              bars_is =
                  rw
                  bs
                  (omega (
                    arith,
                    length-append (take n.bars n.barred) (g ∷ []),
                    length-take-le n.bars n.barred (omega arith),
                  ));
              bars_fit = omega arith;
              flags_is = p.flags_is;
              flags_fit = p.flags_fit;
            };
      }

  abbrev pub with-flagged : DN.Nest
  with-flagged =
      record {
        count = n.count + 1;
        points = set n.points n.count DO;
        many = n.many;
        deps = n.deps;
        bars = n.bars;
        barred = n.barred;
        flags = n.flags + 1;
        flagged = set n.flagged n.flags n.count;
      }

  pub flagged_added
      : n.count < POINTS → length n.points ≡ POINTS → length n.flagged ≡ POINTS → FlaggedAdded n with-flagged
  flagged_added h e l =
      let added = point_added DO h e in
      let within = p.flags_fit in
      let fs : take (n.flags + 1) (set n.flagged n.flags n.count) ≡ take n.flags n.flagged ++ (n.count ∷ []) =
      rw add-one (take-suc-set n.flagged n.flags n.count (omega arith)) in
      record {
        nest_is = rw (points_more DO h e, fs, ← p.count_is);
        one_more = refl;
        same_many = refl;
        same_bars = refl;
        counted =
            record {
              count_is = added.counted.count_is;
              count_fits = omega arith;
              many_is = p.many_is;
              many_fits = p.many_fits;
              bars_is = p.bars_is;
              bars_fit = p.bars_fit;
              flags_is =
                  rw
                  fs
                  (omega (
                    arith,
                    length-append (take n.flags n.flagged) (n.count ∷ []),
                    length-take-le n.flags n.flagged (omega arith),
                  ));
              flags_fit = omega (arith, p.flags_fit);
            };
      }
