-- A key of the project's definitions is one of the page's: correct, least loop by loop and by trees, and smallest on a
-- ring.
-- Main statements: `as-good`, `good_tree`, `on_ring`, `key-of`.
use mathlib.Core.Path.{◌≡◌, refl, sym, ◌∙◌, ap, subst}
use mathlib.Core.Bool.{true}
use mathlib.Core.List.{List}
use mathlib.Core.Logic.{◌⊎◌, inl, inr, ⊎_elim}
use Prim.Native.Nat.{ℕ, zero, suc, ◌+◌, ◌-◌, ◌≤◌, ◌<◌}
use native.Mathlib.Omega.{arith}
use lib.Dec.{eqb}
use lib.ListN.{length, get_or}
use borrow.Author.Tests.{eq-eqb, eqb-true, lt-ltb, le-ltb}
use Rattle.laws.specs.Choice.{is_in}
use Rattle.laws.proofs.Tests.{never, or-true, or_left, or_right, eq_or, le_or}
use Rattle.paper_nests.specs.declared.Dependence as DE
use Rattle.paper_nests.specs.Nests.{Nest}
use Rattle.paper_nests.specs.Loops.{is_do, end_of, in_loop}
use Rattle.paper_nests.specs.Gaps.{has_gap}
use Rattle.paper_nests.specs.Ring.{one_loop, next_gap, run_of, Interval}
use Rattle.paper_nests.specs.Valid.{is_shape, is_valid}
use Rattle.paper_nests.specs.Stored.{dep_in}
use Rattle.paper_nests.proofs.Levels.{point_in}
use Rattle.paper_nests.proofs.Loops.{inside_lies, inside_by, end-after, nested}
use Rattle.paper_nests.proofs.Deps.{Fits, valid_is, deps_fit}
use Rattle.paper_nests.proofs.Ring.{first_is_one_loop, fits_run}
use Rattle.paper_placements.specs.Placements.{are_gaps, loop_count}
use Rattle.paper_order.specs.LoopOrder.{as_good}
use Rattle.paper_order.specs.Keys.{IsKey}
use Rattle.paper_placements.proofs.Inside.{inside_ends, from_inside}
use Rattle.paper_order.proofs.DirectlyInside.{Around, right_in_lies, right_in_around}
use Rattle.paper_order.proofs.LoopOrder.{as_good_elim}
use Rattle.paper_order.proofs.Keys.{by_loops}
use Rattle.paper_placements.proofs.Cuts.{correct_gaps}
use Rattle.pages.specs.Demands.{In, HowMany, Loop, Own, OneLoop, Paper, Correct}
use Rattle.pages.specs.Demands.{Same, AsGood, SameTree, GoodTree, Best, Key}
use Rattle.pages.specs.Demands as P
use Rattle.pages.proofs.Lists.{is_at, in_among}
use Rattle.pages.proofs.Bodies.{loop_end, loop_do, loop_at}
use Rattle.pages.proofs.Placements.{mapped, nest_of, mapped_at, is_own, counted, count_is}
use Rattle.pages.proofs.Placements.{gap_is, is-gap, correct_is, is-correct}

module _ (n : Nest) (shape : is_shape n.points ≡ true) (xs ys : List ℕ)
    (risen : are_gaps n xs ≡ true) (rising : are_gaps n ys ≡ true) where
  abbrev ps : List ℕ
  ps = n.points

  pub same_is : (d e : ℕ) → Loop ps d e → Same ps xs ys d e → loop_count n xs d ≡ loop_count n ys d
  same_is d e l s =
      count_is ps shape n refl d e 0 s.0 l xs risen s.1.0 ∙
      sym (count_is ps shape n refl d e 0 s.0 l ys rising s.1.1)

  pub is_same : (d e : ℕ) → Loop ps d e → loop_count n xs d ≡ loop_count n ys d → Same ps xs ys d e
  is_same d e l q = (
    loop_count n xs d,
    (
      counted ps shape n refl d e 0 l xs risen,
      subst (λ (j : ℕ). HowMany (Own ps d e) ys j) (sym q) (counted ps shape n refl d e 0 l ys rising),
    ),
  )

  -- loop by loop
  pub as-good : as_good n xs ys ≡ true → AsGood ps xs ys
  as-good h d e l same =
      let q = as_good_elim n shape xs ys h d (loop_do ps d e l)
      (λ x m i.
      let z = inside_lies ps d x i in
      same_is x (end_of ps x) (loop_at ps shape x m)
      (same x (end_of ps x) (loop_at ps shape x m) z.0
      (omega (arith, loop_end ps d e l, inside_ends ps shape d x (loop_do ps d e l) m i)))) in (
        loop_count n xs d,
        (
          loop_count n ys d,
          (counted ps shape n refl d e 0 l xs risen, counted ps shape n refl d e 0 l ys rising, q),
        ),
      )

  -- by trees: the same order
  pub good_tree : AsGood ps xs ys → (d e : ℕ) → Loop ps d e → GoodTree ps xs ys d e
  good_tree good d e l =
      from_inside ps shape (λ x. (y : ℕ) → Loop ps x y → GoodTree ps xs ys x y) step d (loop_do ps d e l) e l
    where
      step
          : (x : ℕ) → is_do ps x ≡ true
          → ((z : ℕ) → is_do ps z ≡ true → in_loop ps x z ≡ true → (y : ℕ) → Loop ps z y → GoodTree ps xs ys z y)
          → (y : ℕ) → Loop ps x y → GoodTree ps xs ys x y
      step x h inner y m =
          GoodTree.node {d = x} {e = y}
          (λ z w k o.
          let i = loop_do ps z w k in
          let j = nested ps shape x z h i o.after (omega (arith, o.upto, loop_end ps x y m)) in
          inner z i (inside_by ps x z o.after (omega (arith, j, end-after ps shape z i))) w k)
          (λ same. good x y m (λ z w k a b. under same z w k a b (right_in_around ps shape x z h (loop_do ps z w k)
          (inside_by ps x z a
          (omega (arith, b, loop_end ps x y m, loop_end ps z w k, end-after ps shape z (loop_do ps z w k)))))))
        where
          under
              : ((z w : ℕ) → Loop ps z w → Own ps x y z → SameTree ps xs ys z w)
              → (z w : ℕ) → Loop ps z w → x < z → w < y → Around ps x z → Same ps xs ys z w
          under same z w k a b u =
              let r = right_in_lies ps x u.loop u.right_in in
              let c = u.loop in
              let o =
              is_own ps shape x y c m (omega (arith, inside_lies ps x c r.inside)) (point_in ps c 0 r.loop)
              r.owner in
              same c (end_of ps c) (loop_at ps shape c r.loop) o z w k
              (⊎_elim
              (λ (q : z ≡ c). omega arith)
              (λ (q : in_loop ps c z ≡ true). omega (arith, inside_lies ps c z q))
              u.holds)
              (⊎_elim
              (λ (q : z ≡ c). let v : end_of ps z ≡ end_of ps c = ap (end_of ps) q in omega (arith, loop_end ps z w k))
              (λ (q : in_loop ps c z ≡ true).
              omega (arith, loop_end ps z w k, inside_ends ps shape c z r.loop (loop_do ps z w k) q))
              u.holds)

-- ---- the ring

abbrev OnRing : ℕ → ℕ → ℕ → ℕ → Type 0
OnRing m a k g = (1 ≤ g) × (g ≤ m) × (((a ≤ g) × (g < a + k)) ⊎ (g + m < a + k))

run_is : (m k a g : ℕ) → 1 ≤ a → a ≤ m → k ≤ m → is_in g (run_of m a k) ≡ true → OnRing m a k g
run_is m zero a g l h b i = never i
run_is m (suc k) a g l h b i =
    ⊎_elim
    (λ (z : a < m).
    let q : next_gap m a ≡ suc a = rw (lt-ltb a m z) in
    go (or-true (eqb g a) (is_in g (run_of m (next_gap m a) k)) i)
    (λ j. up (run_is m k (suc a) g (omega arith) z (omega arith) (rw q at j))))
    (λ (z : m ≤ a).
    let q : next_gap m a ≡ 1 = rw (le-ltb a m z) in
    go (or-true (eqb g a) (is_in g (run_of m (next_gap m a) k)) i)
    (λ j. round z (run_is m k 1 g (omega arith) (omega arith) (omega arith) (rw q at j))))
    (less a m)
  where
    less : (x y : ℕ) → (x < y) ⊎ (y ≤ x)
    less x y = ⊎_elim (λ (z : y ≤ x). inr z) (λ (z : x < y). inl z) (le_or y x)

    up : OnRing m (suc a) k g → OnRing m a (suc k) g
    up r = (
      r.0,
      r.1,
      ⊎_elim (λ z. inl (omega (arith, z.0), omega (arith, z.1)))
          (λ (z : g + m < suc a + k). inr (omega arith)) r.2,
    )

    round : m ≤ a → OnRing m 1 k g → OnRing m a (suc k) g
    round y r = (r.0, r.1, inr (⊎_elim (λ z. omega (arith, z.1)) (λ (z : g + m < 1 + k). omega arith) r.2))

    go
        : (eqb g a ≡ true) ⊎ (is_in g (run_of m (next_gap m a) k) ≡ true)
        → (is_in g (run_of m (next_gap m a) k) ≡ true → OnRing m a (suc k) g) → OnRing m a (suc k) g
    go (inl z) f = let q = eqb-true g a z in (omega arith, omega arith, inl (omega arith, omega arith))
    go (inr z) f = f z

is_run : (m k a g : ℕ) → 1 ≤ a → a ≤ m → k ≤ m → OnRing m a k g → is_in g (run_of m a k) ≡ true
is_run m zero a g l h b r =
    absurd (⊎_elim (λ z. omega (arith, z.0, z.1)) (λ (z : g + m < a + 0). omega (arith, r.0)) r.2)
is_run m (suc k) a g l h b r =
    ⊎_elim
    (λ (z : g ≡ a). or_left (is_in g (run_of m (next_gap m a) k)) (eq-eqb g a z))
    (λ (z : g ≡ a → ⊥).
    or_right (eqb g a)
    (⊎_elim
    (λ (y : m ≤ a).
    let q : next_gap m a ≡ 1 = rw (le-ltb a m y) in
    rw q
    (is_run m k 1 g (omega arith) (omega arith) (omega arith) (
      r.0,
      r.1,
      inl (
        r.0,
        ⊎_elim (λ w. omega (arith, w.0, r.1, z)) (λ (w : g + m < a + suc k). omega arith)
            r.2,
      ),
    )))
    (λ (y : a < m).
    let q : next_gap m a ≡ suc a = rw (lt-ltb a m y) in
    rw q
    (is_run m k (suc a) g (omega arith) y (omega arith) (
      r.0,
      r.1,
      ⊎_elim (λ w. inl (omega (arith, w.0, z), omega (arith, w.1))) (λ (w : g + m < a + suc k). inr (omega arith))
          r.2,
    )))
    (le_or m a)))
    (eq_or g a)

-- ---- keys

module _ (p : Paper) (fs : List ℕ) (valid : is_valid (nest_of p fs) ≡ true) where
  pub shaped : is_shape p.points ≡ true
  shaped = (valid_is (nest_of p fs) valid).shape

  pub fit : (x : DE.Dependence) → In x p.deps → Fits p.points (dep_in x)
  fit x i =
      deps_fit p.points (mapped p.deps) (valid_is (nest_of p fs) valid).all-deps (dep_in x)
      (in_among (dep_in x) (mapped p.deps) i.0 (mapped_at p.deps i.0 x i.1))

  pub one_loop_is : OneLoop p.points → one_loop p.points ≡ true
  one_loop_is one =
      first_is_one_loop p.points
      (λ d h. one d (is_at p.points d 1 0 (point_in p.points d 0 h) (eqb-true (get_or p.points d 0) 1 h)))

  pub least_of
      : (xs ys : List ℕ) → IsKey (nest_of p fs) xs → Correct p ys → AsGood p.points xs ys
  least_of xs ys k c =
      let h = correct_is p fs shaped ys c in
      as-good (nest_of p fs) shaped xs ys (correct_gaps (nest_of p fs) xs k.correct) (correct_gaps (nest_of p fs) ys h)
      (k.least ys h)

  interval
      : (x : DE.Dependence) → Fits p.points (dep_in x) → (m : ℕ) → length p.points ≡ suc m
      → Interval p.points (dep_in x)
      → (a : ℕ) × ((k : ℕ) × P.Interval p.points x m a k)
  interval x f m q i =
      let z : length p.points - 1 ≡ m = omega arith in
      let a = i.start in
      let k = i.size in
      let l : a ≤ m = omega (arith, i.start_last) in
      let b : k ≤ m = omega (arith, i.size_last) in
      let gaps : (g : ℕ) → has_gap p.points (dep_in x) g ≡ is_in g (run_of m a k) = rw z at i.gaps in (
        a,
        (
          k,
          record {
            start = (i.start_first, l);
            size = (i.size_first, b);
            gaps =
                λ g. (
                  (λ h. run_is m k a g i.start_first l b (sym (gaps g) ∙ gap_is p.points shaped x g h)),
                  (λ h. is-gap p.points shaped x g f (gaps g ∙ is_run m k a g i.start_first l b h)),
                );
          },
        ),
      )

  pub best-of : (key : List ℕ) → IsKey (nest_of p fs) key → Best p key
  best-of key k =
      record { correct = is-correct p fs shaped fit key k.correct; least = λ ys c. least_of key ys k c }

  pub key-of : (key : List ℕ) → IsKey (nest_of p fs) key → Key p key
  key-of key k =
      record {
        best = best-of key k;
        by_trees =
            λ ys c e l.
            good_tree (nest_of p fs) shaped key ys (correct_gaps (nest_of p fs) key k.correct)
            (correct_gaps (nest_of p fs) ys (correct_is p fs shaped ys c)) (least_of key ys k c) 0 e l;
        ring =
            λ one m q x i.
            interval x (fit x i) m q (fits_run p.points (dep_in x) shaped (one_loop_is one) (fit x i));
        smallest =
            λ one ys c. (by_loops (nest_of p fs) shaped key k).one-loop ys (one_loop_is one)
            (correct_is p fs shaped ys c);
      }
