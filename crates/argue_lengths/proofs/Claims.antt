-- How many claims: a loop has at most two and one for each gap of its range, and a gap lies in the ranges of at most 8
-- loops. The ranges are summed gap after gap: a gap more adds the number of loops around it, at most its level.
-- Main statements: `heads_few`, `plain_claims`, `few_claims`.
use mathlib.Core.Path.{◌≡◌, refl, ap}
use mathlib.Core.Bool.{Bool, true, false, ◌&&◌}
use mathlib.Core.List.{List, [], ◌∷◌, ◌++◌}
use mathlib.Core.Logic.{⊎_elim}
use Prim.Native.Nat.{ℕ, zero, suc, ◌+◌, ◌-◌, ◌*◌, ◌≤◌, ◌<◌, min}
use native.Mathlib.Omega.{arith}
use lib.Dec.{ltb, leb}
use lib.ListN.{length, length-append}
use borrow.Author.Tests.{ltb-true, le-leb, leb-true}
use Rattle.laws.specs.Choice.{pick, when}
use Rattle.laws.proofs.Tests.{le_or, and_true}
use Rattle.paper_nests.specs.Kinds.{DEPTH}
use Rattle.paper_nests.specs.Nests.{Dep, Nest}
use Rattle.paper_nests.specs.Loops.{is_do, end_of}
use Rattle.paper_nests.specs.Valid.{is_shape, is_valid}
use Rattle.paper_nests.proofs.Deps.{valid_is}
use Rattle.paper_nests.proofs.Levels.{lev, lev_deep}
use Rattle.paper_nests.proofs.Loops.{end_there, range_above}
use Rattle.paper_barred.specs.Reduced.{is_blocked}
use Rattle.plan_method.specs.Sweep.{Tables}
use Rattle.plan_method.specs.Plan.{table_of}
use Rattle.plan_method.specs.Home.{loops_in, lines_in}
use Rattle.argue_key.specs.Laps.{Head, head, before, starts_run, row_heads, low_heads, loop_heads}
use Rattle.argue_key.specs.Laps.{heads_from, plain_argument, argument_of}
use Rattle.argue_key.proofs.AllClaims.{made_length}
use Rattle.argue_lengths.specs.Lengths.{MOST-CLAIMS}
use Rattle.argue_lengths.proofs.Plain.{PlainOf, plain_of}

-- ---- heads of one loop

row_few : (T : Tables) (d e : ℕ) → length (row_heads T d e) ≤ e - d
unfolding row_heads
row_few T d zero = omega arith
row_few T d (suc b) = go (ltb d (suc b)) refl (starts_run T d b) (row_few T d b)
  where
    go : (t : Bool) → ltb d (suc b) ≡ t → (u : Bool) → length (row_heads T d b) ≤ b - d →
        length (pick t (pick u (head d (suc b) (before (T.left d (suc b))) ∷ row_heads T d b) (row_heads T d b)) []) ≤
        suc b - d
    go true e true r = omega (arith, ltb-true d (suc b) e, r)
    go true e false r = omega (arith, r)
    go false e u r = omega arith

-- the loop's own number: two claims, and one for each gap of its range
abbrev of_loop : List ℕ → ℕ → ℕ
of_loop ps d = when (is_do ps d) (2 + (end_of ps d - d))

at_most_one : {A : Type 0} (t : Bool) (x : A) → length (pick t (x ∷ []) []) ≤ 1
at_most_one true x = omega arith
at_most_one false x = omega arith

loop_few : (ps : List ℕ) (T : Tables) (d : ℕ) → length (loop_heads ps T d) ≤ of_loop ps d
unfolding loop_heads
loop_few ps T d = go (is_do ps d) (ltb 0 (T.left d (suc d))) (ltb 0 d)
  where
    up : List Head
    up = pick (ltb (suc d) (T.left d (suc d))) (head d 0 (before (T.left d (suc d))) ∷ []) []

    go : (t u v : Bool) →
        length (pick (t && u) (low_heads T d ++ pick v (up ++ row_heads T d (end_of ps d)) []) []) ≤
        when t (2 + (end_of ps d - d))
    go true true true = omega (
      arith,
      length-append (low_heads T d) (up ++ row_heads T d (end_of ps d)),
      length-append up (row_heads T d (end_of ps d)),
      at_most_one (ltb 0 (T.cost d)) (head d 0 0),
      at_most_one (ltb (suc d) (T.left d (suc d))) (head d 0 (before (T.left d (suc d)))),
      row_few T d (end_of ps d),
    )
    go true true false = omega (
      arith,
      length-append (low_heads T d) [],
      at_most_one (ltb 0 (T.cost d)) (head d 0 0),
    )
    go true false v = omega arith
    go false u v = omega arith

-- ---- heads of all loops

-- the loops with DO before point k
abbrev of_loops : List ℕ → ℕ → ℕ
of_loops ps zero = 0
of_loops ps (suc d) = of_loop ps d + of_loops ps d

loops_few : (ps : List ℕ) (T : Tables) (k d m : ℕ) (hs : List Head) → k + d ≡ m →
    length (heads_from ps T k d hs) + of_loops ps d ≤ length hs + of_loops ps m
unfolding heads_from
loops_few ps T zero d m hs e = let z : d ≡ m = omega (arith, e) in rw z (omega arith)
loops_few ps T (suc k) d m hs e =
    omega (
      arith,
      loops_few ps T k (suc d) m (loop_heads ps T d ++ hs) (omega (arith, e)),
      length-append (loop_heads ps T d) hs,
      loop_few ps T d,
    )

-- ---- ranges summed gap after gap

-- of the loops with DO before point k: the gaps up to m in their ranges; the loops with gap g in its range
abbrev ranges : List ℕ → ℕ → ℕ → ℕ
ranges ps m zero = 0
ranges ps m (suc d) = when (is_do ps d) (min (end_of ps d) m - d) + ranges ps m d

abbrev around : List ℕ → ℕ → ℕ → ℕ
around ps g zero = 0
around ps g (suc d) = when (is_do ps d && leb g (end_of ps d)) 1 + around ps g d

range_next : (e m d : ℕ) → min e (suc m) - d ≤ (min e m - d) + when (leb (suc m) e) 1
range_next e m d = ⊎_elim
    (λ (z : e ≤ m). omega (arith, z))
    (λ (z : m < e). rw (le-leb (suc m) e (omega (arith, z))) (omega (arith, z)))
    (le_or e m)

ranges_next : (ps : List ℕ) (m k : ℕ) → ranges ps (suc m) k ≤ ranges ps m k + around ps (suc m) k
ranges_next ps m zero = omega arith
ranges_next ps m (suc d) = go (is_do ps d) (ranges_next ps m d)
  where
    go : (t : Bool) → ranges ps (suc m) d ≤ ranges ps m d + around ps (suc m) d →
        when t (min (end_of ps d) (suc m) - d) + ranges ps (suc m) d ≤
        (when t (min (end_of ps d) m - d) + ranges ps m d) +
        (when (t && leb (suc m) (end_of ps d)) 1 + around ps (suc m) d)
    go true r = omega (arith, r, range_next (end_of ps d) m d)
    go false r = omega (arith, r)

module _ (ps : List ℕ) (shape : is_shape ps ≡ true) where
  -- the loops around a gap that begin before point k are open at every point from k to the gap
  around_few : (g k j : ℕ) → k ≤ j → j ≤ g → around ps g k ≤ lev ps j
  around_few g zero j a b = omega arith
  around_few g (suc d) j a b =
      go (is_do ps d && leb g (end_of ps d)) refl
      (around_few g d d (omega arith) (omega (arith, a, b))) (around_few g d j (omega (arith, a)) b)
    where
      go : (t : Bool) → (is_do ps d && leb g (end_of ps d)) ≡ t → around ps g d ≤ lev ps d → around ps g d ≤ lev ps j →
          when t 1 + around ps g d ≤ lev ps j
      go true e r q =
          let z = and_true (is_do ps d) (leb g (end_of ps d)) e in
          let y : g ≤ end_of ps d = leb-true g (end_of ps d) z.1 in
          omega (arith, r, range_above ps shape d j z.0 (omega (arith, a)) (omega (arith, b, y)))
      go false e r q = omega (arith, q)

  ranges_few : (m : ℕ) → ranges ps m m ≤ DEPTH * m
  ranges_few zero = omega arith
  ranges_few (suc m) =
      omega (
        arith,
        ranges_next ps m (suc m),
        last (is_do ps m),
        ranges_few m,
        around_few (suc m) (suc m) (suc m) (omega arith) (omega arith),
        lev_deep ps shape (suc m),
      )
    where
      last : (t : Bool) → when t (min (end_of ps m) m - m) ≡ 0
      last true = omega arith
      last false = refl

  loops_ranges : (k : ℕ) → of_loops ps k ≤ 2 * k + ranges ps (length ps) k
  loops_ranges zero = omega arith
  loops_ranges (suc d) = go (is_do ps d) refl (loops_ranges d)
    where
      go : (t : Bool) → is_do ps d ≡ t → of_loops ps d ≤ 2 * d + ranges ps (length ps) d →
          when t (2 + (end_of ps d - d)) + of_loops ps d ≤
          2 * suc d + (when t (min (end_of ps d) (length ps) - d) + ranges ps (length ps) d)
      go true e r = omega (arith, r, end_there ps shape d e)
      go false e r = omega (arith, r)

  -- whatever the tables
  pub heads_few : (T : Tables) → length (heads_from ps T (length ps) 0 []) ≤ (2 + DEPTH) * length ps
  heads_few T =
      omega (
        arith,
        loops_few ps T (length ps) 0 (length ps) [] (omega arith),
        loops_ranges (length ps),
        ranges_few (length ps),
      )

  pub plain_claims : (ds : List Dep) → length (plain_argument ps ds) ≤ (2 + DEPTH) * length ps
  unfolding plain_argument
  plain_claims ds =
      let T : Tables = table_of (loops_in ps) (lines_in ps ds) (length ps) in
      omega (arith, made_length ps ds T [] (heads_from ps T (length ps) 0 []), heads_few T)

pub few_claims : (n : Nest) → is_valid n ≡ true → is_blocked n ≡ false → length (argument_of n) ≤ MOST-CLAIMS
few_claims n valid unblocked = go (plain_of n valid unblocked)
  where
    go : PlainOf (argument_of n) → length (argument_of n) ≤ MOST-CLAIMS
    go p =
        let v = valid_is p.nest p.valid in
        omega (
          arith,
          ap length p.is,
          plain_claims p.nest.points v.shape p.nest.deps,
          v.few_points,
        )
