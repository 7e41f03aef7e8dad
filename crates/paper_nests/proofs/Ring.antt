-- In a nest of one loop the gaps of each dependence are one unbroken run of the ring 1 … n - 1.
-- An independent dependence's run goes from s + 1 to t. A carried one's goes from s + 1 to n - 1 and on from 1 to t;
-- where t lies after s the two parts meet and it is the whole ring.
-- Main statements: `one_loop_is_first`, `first_is_one_loop`, `ring_run`.
use mathlib.Core.Path.{◌≡◌, refl, ◌∙◌}
use mathlib.Core.Bool.{true, false, ◌||◌, not}
use mathlib.Core.List.{List, [], ◌∷◌}
use mathlib.Core.Logic.{◌⊎◌, inl, inr, ⊎_elim}
use Prim.Native.Nat.{ℕ, zero, suc, ◌+◌, ◌-◌, ◌≤◌, ◌<◌}
use native.Mathlib.Omega.{arith}
use lib.Dec.{eqb}
use lib.ListN.{length}
use borrow.Author.Tests.{lt-ltb, le-ltb, eqb-true, eq-eqb}
use Rattle.laws.specs.Choice.{between, is_in}
use Rattle.laws.proofs.Ranges.{in_between, between_in}
use Rattle.laws.proofs.Tests.{never, le_or, eq_or, and_true, or-true, or_left, or_right, bool_by, false_by}
use Rattle.paper_nests.specs.Kinds.{DO}
use Rattle.paper_nests.specs.Nests.{Dep}
use Rattle.paper_nests.specs.Loops.{is_do, end_of}
use Rattle.paper_nests.specs.Gaps.{has_gap}
use Rattle.paper_nests.specs.Valid.{is_shape, is_dep}
use Rattle.paper_nests.specs.Ring.{no_do, one_loop, next_gap, run_of, Interval}
use Rattle.paper_nests.proofs.Loops.{outermost}
use Rattle.paper_nests.proofs.Deps.{Line, Back, Fits, dep_fits}

next_up : (m g : ℕ) → g < m → next_gap m g ≡ suc g
next_up m g l = rw (lt-ltb g m l)

next_round : (m : ℕ) → next_gap m m ≡ 1
next_round m = rw (le-ltb m m (omega arith))

-- a run that does not pass the end of the ring is the gaps from its first to its last
in_line : (m a k g : ℕ) → a + k ≤ suc m → is_in g (run_of m a k) ≡ true → (a ≤ g) × (g < a + k)
in_line m a zero g l h = never h
in_line m a (suc zero) g l h = ⊎_elim
    (λ (z : eqb g a ≡ true). let e = eqb-true g a z in omega arith)
    (λ (z : false ≡ true). never z)
    (or-true (eqb g a) false h)
in_line m a (suc (suc k)) g l h = ⊎_elim
    (λ (z : eqb g a ≡ true). let e = eqb-true g a z in omega arith)
    (λ (z : is_in g (run_of m (next_gap m a) (suc k)) ≡ true).
    let y : is_in g (run_of m (suc a) (suc k)) ≡ true = rw (next_up m a (omega arith)) at z in
    let x = in_line m (suc a) (suc k) g (omega arith) y in
    omega arith)
    (or-true (eqb g a) (is_in g (run_of m (next_gap m a) (suc k))) h)

line_in : (m a k g : ℕ) → a + k ≤ suc m → a ≤ g → g < a + k → is_in g (run_of m a k) ≡ true
line_in m a zero g l p q = absurd (omega arith)
line_in m a (suc zero) g l p q = or_left false (eq-eqb g a (omega arith))
line_in m a (suc (suc k)) g l p q = ⊎_elim
    (λ (z : g ≡ a). or_left (is_in g (run_of m (next_gap m a) (suc k))) (eq-eqb g a z))
    (λ (z : g ≡ a → ⊥).
    let y = line_in m (suc a) (suc k) g (omega arith) (omega arith) (omega arith) in
    let n : next_gap m a ≡ suc a = next_up m a (omega arith) in
    or_right (eqb g a) (rw n y))
    (eq_or g a)

-- a run that passes the end of the ring goes on from gap 1
in_round :
    (m a j t g : ℕ) → a + suc j ≡ suc m → is_in g (run_of m a (suc j + t)) ≡ true →
    ((a ≤ g) × (g ≤ m)) ⊎ (is_in g (run_of m 1 t) ≡ true)
in_round m a zero t g l h =
    let e : 1 + t ≡ suc t = omega arith in
    let y : is_in g (run_of m a (suc t)) ≡ true = rw e at h in
    let q : a ≡ m = omega arith in
    let n : next_gap m a ≡ 1 = rw q (next_round m) in
    ⊎_elim
    (λ (z : eqb g a ≡ true). let e = eqb-true g a z in inl (omega arith))
    (λ (z : is_in g (run_of m (next_gap m a) t) ≡ true). inr (rw n at z))
    (or-true (eqb g a) (is_in g (run_of m (next_gap m a) t)) y)
in_round m a (suc j) t g l h =
    let e : suc (suc j) + t ≡ suc (suc j + t) = omega arith in
    let y : is_in g (run_of m a (suc (suc j + t))) ≡ true = rw e at h in
    let n : next_gap m a ≡ suc a = next_up m a (omega arith) in
    ⊎_elim
    (λ (z : eqb g a ≡ true). let e = eqb-true g a z in inl (omega arith))
    (λ (z : is_in g (run_of m (next_gap m a) (suc j + t)) ≡ true).
    ⊎_elim
    (λ (w : (suc a ≤ g) × (g ≤ m)). inl (omega arith))
    (λ (w : is_in g (run_of m 1 t) ≡ true). inr w)
    (in_round m (suc a) j t g (omega arith) (rw n at z)))
    (or-true (eqb g a) (is_in g (run_of m (next_gap m a) (suc j + t))) y)

round_in :
    (m a j t g : ℕ) → a + suc j ≡ suc m → ((a ≤ g) × (g ≤ m)) ⊎ (is_in g (run_of m 1 t) ≡ true) →
    is_in g (run_of m a (suc j + t)) ≡ true
round_in m a zero t g l h =
    let e : 1 + t ≡ suc t = omega arith in
    let q : a ≡ m = omega arith in
    let n : next_gap m a ≡ 1 = rw q (next_round m) in
    let y : is_in g (run_of m a (suc t)) ≡ true = ⊎_elim
    (λ (z : (a ≤ g) × (g ≤ m)). or_left (is_in g (run_of m (next_gap m a) t)) (eq-eqb g a (omega arith)))
    (λ (z : is_in g (run_of m 1 t) ≡ true). or_right (eqb g a) (rw n z))
    h in
    rw e y
round_in m a (suc j) t g l h =
    let e : suc (suc j) + t ≡ suc (suc j + t) = omega arith in
    let n : next_gap m a ≡ suc a = next_up m a (omega arith) in
    let r = round_in m (suc a) j t g (omega arith) in
    let y : is_in g (run_of m a (suc (suc j + t))) ≡ true = ⊎_elim
    (λ (z : (a ≤ g) × (g ≤ m)).
    ⊎_elim
    (λ (w : g ≡ a). or_left (is_in g (run_of m (next_gap m a) (suc j + t))) (eq-eqb g a w))
    (λ (w : g ≡ a → ⊥). or_right (eqb g a) (rw n (r (inl (omega arith)))))
    (eq_or g a))
    (λ (z : is_in g (run_of m 1 t) ≡ true). or_right (eqb g a) (rw n (r (inr z))))
    h in
    rw e y

-- the whole ring, a line, a line round the end: each equal to its tests
line_run : (m s t g : ℕ) → s ≤ t → t ≤ m → between (suc s) g t ≡ is_in g (run_of m (suc s) (t - s))
line_run m s t g p q =
    bool_by (between (suc s) g t) (is_in g (run_of m (suc s) (t - s)))
    (λ h. let z = in_between (suc s) g t h in line_in m (suc s) (t - s) g (omega arith) z.0 (omega arith))
    (λ h. let z = in_line m (suc s) (t - s) g (omega arith) h in between_in (suc s) g t z.0 (omega arith))

round_run :
    (m s t g : ℕ) → t ≤ s → s < m →
    (between 1 g t || between (suc s) g m) ≡ is_in g (run_of m (suc s) ((m - s) + t))
round_run m s t g p q =
    let e : m - s ≡ suc (m - suc s) = omega arith in
    rw e
    (bool_by (between 1 g t || between (suc s) g m) (is_in g (run_of m (suc s) (suc (m - suc s) + t))) to from)
  where
    to : (between 1 g t || between (suc s) g m) ≡ true → is_in g (run_of m (suc s) (suc (m - suc s) + t)) ≡ true
    to h = round_in m (suc s) (m - suc s) t g (omega arith) (⊎_elim
        (λ (z : between 1 g t ≡ true).
        let y = in_between 1 g t z in
        inr (line_in m 1 t g (omega arith) y.0 (omega arith)))
        (λ (z : between (suc s) g m ≡ true). inl (in_between (suc s) g m z))
        (or-true (between 1 g t) (between (suc s) g m) h))

    from : is_in g (run_of m (suc s) (suc (m - suc s) + t)) ≡ true → (between 1 g t || between (suc s) g m) ≡ true
    from h = ⊎_elim
        (λ (z : (suc s ≤ g) × (g ≤ m)). or_right (between 1 g t) (between_in (suc s) g m z.0 z.1))
        (λ (z : is_in g (run_of m 1 t) ≡ true).
        let y = in_line m 1 t g (omega arith) z in
        or_left (between (suc s) g m) (between_in 1 g t y.0 (omega arith)))
        (in_round m (suc s) (m - suc s) t g (omega arith) h)

whole_run :
    (m s t g : ℕ) → s < t → t ≤ m → (between 1 g t || between (suc s) g m) ≡ is_in g (run_of m 1 m)
whole_run m s t g p q = bool_by (between 1 g t || between (suc s) g m) (is_in g (run_of m 1 m)) to from
  where
    to : (between 1 g t || between (suc s) g m) ≡ true → is_in g (run_of m 1 m) ≡ true
    to h = ⊎_elim
        (λ (z : between 1 g t ≡ true). let y = in_between 1 g t z in line_in m 1 m g (omega arith) y.0 (omega arith))
        (λ (z : between (suc s) g m ≡ true).
        let y = in_between (suc s) g m z in
        line_in m 1 m g (omega arith) (omega arith) (omega arith))
        (or-true (between 1 g t) (between (suc s) g m) h)

    from : is_in g (run_of m 1 m) ≡ true → (between 1 g t || between (suc s) g m) ≡ true
    from h =
        let y = in_line m 1 m g (omega arith) h in
        ⊎_elim
        (λ (z : g ≤ t). or_left (between (suc s) g m) (between_in 1 g t y.0 z))
        (λ (z : t < g). or_right (between 1 g t) (between_in (suc s) g m (omega arith) (omega arith)))
        (le_or g t)

no-do : (ps : List ℕ) (i : ℕ) → no_do ps ≡ true → is_do ps i ≡ true → ⊥
no-do [] i h k = never k
no-do (p ∷ ps) i h k = go i (and_true (not (eqb p DO)) (no_do ps) h) k (no-do ps)
  where
    go :
        (i : ℕ) → (not (eqb p DO) ≡ true) × (no_do ps ≡ true) → is_do (p ∷ ps) i ≡ true →
        ((j : ℕ) → no_do ps ≡ true → is_do ps j ≡ true → ⊥) → ⊥
    go zero z k r = never (rw k at z.0)
    go (suc i) z k r = r i z.1 k

-- the only loop is the outermost
pub one_loop_is_first : (ps : List ℕ) → one_loop ps ≡ true → (d : ℕ) → is_do ps d ≡ true → d ≡ 0
one_loop_is_first [] h d k = never k
one_loop_is_first (p ∷ ps) h zero k = refl
one_loop_is_first (p ∷ ps) h (suc d) k = absurd (no-do ps d h k)

none_do : (ps : List ℕ) → ((i : ℕ) → is_do ps i ≡ true → ⊥) → no_do ps ≡ true
none_do [] h = refl
none_do (p ∷ ps) h =
    let z : eqb p DO ≡ false = false_by (h 0) in
    rw z (none_do ps (λ i. h (suc i)))

-- and where it is, there is one loop
pub first_is_one_loop : (ps : List ℕ) → ((d : ℕ) → is_do ps d ≡ true → d ≡ 0) → one_loop ps ≡ true
first_is_one_loop [] h = refl
first_is_one_loop (p ∷ ps) h = none_do ps (λ i k. omega (arith, h (suc i) k))

module _ (ps : List ℕ) (shape : is_shape ps ≡ true) (e : Dep) where
  line_interval : Line ps e → Interval ps e
  line_interval l =
      record {
        start = suc e.s;
        size = e.t - e.s;
        start_first = omega arith;
        start_last = omega (arith, l.forward, l.target_there);
        size_first = omega (arith, l.forward);
        size_last = omega (arith, l.target_there);
        gaps = gaps;
      }
    where
      gaps : (g : ℕ) → has_gap ps e g ≡ is_in g (run_of (length ps - 1) (suc e.s) (e.t - e.s))
      gaps g =
          let p : e.s ≤ e.t = omega (arith, l.forward) in
          let q : e.t ≤ length ps - 1 = omega (arith, l.target_there) in
          rw l.kind_is (line_run (length ps - 1) e.s e.t g p q)

  -- of a dependence carried by the only loop, its points in either order
  back_interval : e.d ≡ 0 → Back ps e → Interval ps e
  back_interval z b = go (le_or e.t e.s)
    where
      last : end_of ps 0 ≡ length ps - 1
      last = omega (arith, outermost ps shape)

      source : e.s < length ps - 1
      source = let y : end_of ps e.d ≡ length ps - 1 = rw z last in omega (arith, b.source_before)

      target : e.t < length ps - 1
      target = let y : end_of ps e.d ≡ length ps - 1 = rw z last in omega (arith, b.target_before)

      gaps : (g : ℕ) → has_gap ps e g ≡ (between 1 g e.t || between (suc e.s) g (length ps - 1))
      gaps g = rw (b.kind_is, z, last)

      go : (e.t ≤ e.s) ⊎ (e.s < e.t) → Interval ps e
      go (inl q) =
          record {
            start = suc e.s;
            size = (length ps - 1 - e.s) + e.t;
            start_first = omega arith;
            start_last = source;
            size_first = omega (arith, source);
            size_last = omega (arith, source);
            gaps = λ g. gaps g ∙ round_run (length ps - 1) e.s e.t g q source;
          }
      go (inr q) =
          record {
            start = 1;
            size = length ps - 1;
            start_first = omega arith;
            start_last = omega (arith, source);
            size_first = omega (arith, source);
            size_last = omega arith;
            gaps = λ g. gaps g ∙ whole_run (length ps - 1) e.s e.t g q (omega (arith, target));
          }

-- of a well placed dependence, a carried one's points in either order
pub fits_run : (ps : List ℕ) (e : Dep) → is_shape ps ≡ true → one_loop ps ≡ true → Fits ps e → Interval ps e
fits_run ps e shape one (inl l) = line_interval ps shape e l
fits_run ps e shape one (inr b) = back_interval ps shape e (one_loop_is_first ps one e.d b.loop) b

-- 01, "The nest and its gaps": on the ring of one loop the gaps of a dependence are one run, its circular interval
pub ring_run : (ps : List ℕ) (e : Dep) → is_shape ps ≡ true → one_loop ps ≡ true → is_dep ps e ≡ true → Interval ps e
ring_run ps e shape one h = fits_run ps e shape one (dep_fits ps e h)
