-- A claim of the nest of the unbarred gaps is one of the nest itself: each dependence has the unbarred gaps that the
-- renumbered one has, so the same steps name the same gaps, and what is barred is out.
-- Main statement: `claim_kept`.
use mathlib.Core.Path.{◌≡◌, refl, sym, ap, ◌∙◌}
use mathlib.Core.Bool.{Bool, true, false, ◌&&◌, not}
use mathlib.Core.List.{List, [], ◌∷◌}
use mathlib.Core.Logic.{inl, inr, ⊎_elim}
use Prim.Native.Nat.{ℕ, zero, suc, ◌+◌, ◌-◌, ◌≤◌, ◌<◌}
use native.Mathlib.Omega.{arith}
use lib.Dec.{eqb, ltb}
use lib.ListN.{length}
use borrow.Author.Tests.{eq-eqb, ltb-true, lt-ltb, le-leb}
use Rattle.laws.specs.Choice.{when, is_in}
use Rattle.laws.specs.Members.{Among}
use Rattle.laws.proofs.Tests.{test, never, le_or, and_true, and_intro, false_by}
use Rattle.laws.proofs.Implies.{implies_by}
use Rattle.paper_nests.specs.Nests.{Dep, Nest}
use Rattle.paper_nests.specs.Loops.{is_do, end_of, owner_of, is_around}
use Rattle.paper_nests.specs.Gaps.{has_gap}
use Rattle.paper_nests.specs.Ring.{one_loop}
use Rattle.paper_nests.specs.Valid.{is_shape, is_valid}
use Rattle.paper_nests.proofs.Ring.{one_loop_is_first}
use Rattle.paper_nests.proofs.Levels.{starts_with_do}
use Rattle.paper_nests.proofs.Loops.{outermost, owner_is_do}
use Rattle.paper_nests.proofs.Deps.{Fits, valid_is, deps_fit, line_gap, back_gap}
use Rattle.paper_placements.specs.Placements.{is_free, loop_count}
use Rattle.paper_barred.specs.Ranks.{rank}
use Rattle.paper_barred.specs.Reduced.{ring_points, reduced_dep, reduced_deps, reduced}
use Rattle.paper_barred.proofs.Ranks.{rank_first, rank_monotone}
use Rattle.paper_barred.proofs.RingPoints.{ring_shape, ring_one, ring_length}
use Rattle.paper_barred.proofs.Reduced.{gap_ranked}
use Rattle.paper_barred.proofs.ReducedNest.{reduced_length}
use Rattle.argue_claims.specs.Arguments.{Step, Claim, Count, st, greatest, lots, dep_at, fact_out}
use Rattle.argue_claims.specs.Arguments.{is_out, is_led}
use Rattle.argue_claims.specs.Arguments.{is_left}
use Rattle.argue_claims.specs.Arguments.{step, run, ended, begun}
use Rattle.argue_claims.proofs.Lots.{lots_zero, lots_suc, lots_more, lots_le, greatest_pos, greatest_at}
use Rattle.argue_claims.proofs.Lots.{greatest_in, every_by}
use Rattle.argue_claims.proofs.Listed.{dep_among, run_fine}

-- fewer times, and fewer barriers: a low claim holds all the more
low_kept : (g m a b c : ℕ) → 0 < g → g ≤ m → a ≤ b → lots m b < c + m → lots g a < c + g
low_kept g m a zero c p q h k =
    let z : a ≡ 0 = omega (arith, h) in
    let y : lots g a ≡ lots g 0 = ap (lots g) z in
    omega (arith, y, lots_zero g, p)
low_kept g m zero (suc b) c p q h k = omega (arith, lots_zero g, p)
low_kept g m (suc a) (suc b) c p q h k =
    omega (arith, k, lots_suc m b, lots_suc g a, lots_le g m a q, lots_more m a b (omega (arith, h)))

dep-at : (bs : List ℕ) (m : ℕ) (ds : List Dep) (i : ℕ) → i < length ds →
    dep_at (reduced_deps bs m ds) i ≡ reduced_dep bs m (dep_at ds i)
dep-at bs m [] i h = absurd (omega arith)
dep-at bs m (e ∷ es) zero h = refl
dep-at bs m (e ∷ es) (suc i) h = dep-at bs m es i (omega (arith, h))

free_not_in : (bs : List ℕ) (g : ℕ) → is_free bs g ≡ true → is_in g bs ≡ false
free_not_in bs g h = false_by (λ (z : is_in g bs ≡ true). never (rw z at h))

unfree_in : (bs : List ℕ) (g : ℕ) → is_free bs g ≡ false → is_in g bs ≡ true
unfree_in bs g h = go (is_in g bs) h
  where
    go : (b : Bool) → not b ≡ false → b ≡ true
    go true z = refl
    go false z = never (sym z)

-- ---- one claim, in both nests

module _ (n : Nest) (valid : is_valid n ≡ true) (one : one_loop n.points ≡ true) (key rkey : List ℕ) (k : Claim)
    (loop_is : k.loop ≡ 0) (from_is : k.from ≡ 0) (upto_is : k.upto ≡ 0) where
  abbrev ps : List ℕ
  ps = n.points

  abbrev bs : List ℕ
  bs = n.barred

  abbrev ds : List Dep
  ds = n.deps

  abbrev last : ℕ
  last = length n.points - 1

  abbrev top : ℕ
  top = rank n.barred (length n.points - 1)

  abbrev ring : Nest
  ring = reduced n.points n.barred n.deps

  shape : is_shape ps ≡ true
  shape = (valid_is n valid).shape

  fits : (e : Dep) → Among e ds → Fits ps e
  fits = deps_fit ps ds (valid_is n valid).all-deps

  points_are : length ps ≡ suc last
  points_are = omega (arith, outermost ps shape)

  owner_zero : (g : ℕ) → 0 < g → g ≤ last → owner_of ps g ≡ 0
  owner_zero g p q = one_loop_is_first ps one (owner_of ps g) (owner_is_do ps shape g p (omega (arith, q, points_are)))

  top_short : 0 < top → length (ring_points top) ≡ suc top
  top_short p = ring_length top p

  ring_owner : (r : ℕ) → 0 < r → r ≤ top → owner_of (ring_points top) r ≡ 0
  ring_owner r p q =
      one_loop_is_first (ring_points top) (ring_one top) (owner_of (ring_points top) r)
      (owner_is_do (ring_points top) (ring_shape top) r p (omega (arith, q, p, top_short (omega (arith, p, q)))))

  -- a gap of a dependence lies in the loop
  gap_high : (e : Dep) → Fits ps e → (g : ℕ) → has_gap ps e g ≡ true → g ≤ last
  gap_high e (inl l) g h = omega (arith, (line_gap ps e g l.kind_is h).1, l.target_there, points_are)
  gap_high e (inr b) g h =
      let z : e.d ≡ 0 = one_loop_is_first ps one e.d b.loop in
      let y : end_of ps e.d ≡ end_of ps 0 = ap (end_of ps) z in
      ⊎_elim (λ (w : (e.d < g) × (g ≤ e.t)). omega (arith, w.1, b.target_before, y, outermost ps shape))
      (λ (w : (e.s < g) × (g ≤ end_of ps e.d)). omega (arith, w.1, y, outermost ps shape))
      (back_gap ps e g b.kind_is h)

  -- the counts of the same steps: x in the renumbered nest, y here
  record Same (x y : Count) : Type 0 where
    fine : y.fine ≡ true
    c_is : y.c ≡ x.c
    no_fact : (g : ℕ) → fact_out n key y.facts g ≡ false
    ring_no_fact : (r : ℕ) → fact_out ring rkey x.facts r ≡ false
    times : (g : ℕ) → 0 < g → g ≤ last → is_free bs g ≡ true → y.times g ≡ x.times (rank bs g)
    barred : (g : ℕ) → is_free bs g ≡ false → y.times g ≡ 0
    beyond : (g : ℕ) → last < g → y.times g ≡ 0

  module _ (m : ℕ) (x y : Count) (same : Same x y) (short : m < length ds) where
    abbrev e : Dep
    e = dep_at ds m

    e_fits : Fits ps e
    e_fits = fits e (dep_among ds m short)

    here : (g : ℕ) → 0 < g → g ≤ last → is_free bs g ≡ true →
        is_left n key k [] y.facts (st (suc (suc m)) 0) g ≡ (has_gap ps e g && true)
    here g p q f =
        let o : eqb (owner_of ps g) k.loop ≡ true = eq-eqb (owner_of ps g) k.loop (owner_zero g p q ∙ sym loop_is)
        in
        rw (free_not_in bs g f, o, same.no_fact g)

    there : (r : ℕ) → 0 < r → r ≤ top →
        is_left ring rkey k [] x.facts (st (suc (suc m)) 0) r ≡ (has_gap (ring_points top) (reduced_dep bs top e) r &&
        true)
    there r p q =
        let o : eqb (owner_of (ring_points top) r) k.loop ≡ true =
        eq-eqb (owner_of (ring_points top) r) k.loop (ring_owner r p q ∙ sym loop_is) in
        rw (o, same.ring_no_fact r, dep-at bs top ds m short)

    alike : (g : ℕ) → 0 < g → g ≤ last → is_free bs g ≡ true →
        is_left n key k [] y.facts (st (suc (suc m)) 0) g ≡
        is_left ring rkey k [] x.facts (st (suc (suc m)) 0) (rank bs g)
    alike g p q f =
        here g p q f ∙
        (ap (λ (b : Bool). b && true) (sym (gap_ranked ps bs e shape one e_fits g p q f)) ∙
        sym (there (rank bs g) (rank_first bs g f p) (rank_monotone bs g last q)))

    left_high : (g : ℕ) → is_left n key k [] y.facts (st (suc (suc m)) 0) g ≡ true → g ≤ last
    left_high g h = gap_high e e_fits g (and_true (has_gap ps e g) _ h).0

    left_free : (g : ℕ) → is_free bs g ≡ false → is_left n key k [] y.facts (st (suc (suc m)) 0) g ≡ false
    left_free g f = false_by (λ (h : is_left n key k [] y.facts (st (suc (suc m)) 0) g ≡ true).
        (let z = and_true (has_gap ps e g) _ h in
        let w = and_true (not (is_out n key k.loop [] y.facts g)) _ z.1 in
        never (rw (unfree_in bs g f) at w.0)))

    same_step : Same (step ring rkey k [] (st (suc (suc m)) 0) x) (step n key k [] (st (suc (suc m)) 0) y)
    same_step =
        record {
          fine = and_intro same.fine (and_intro (lt-ltb m (length ds) short) (and_intro refl (every_by _ (length ps)
              (λ g p q. and_intro
              (implies_by (has_gap ps e g) (is_around ps g k.loop)
              (λ h. and_intro (lt-ltb k.loop g (omega (arith, loop_is, p)))
              (le-leb g (end_of ps k.loop) (around g (gap_high e e_fits g h)))))
              (implies_by (is_left n key k [] y.facts (st (suc (suc m)) 0) g) (eqb (owner_of ps g) k.loop)
              (λ h. eq-eqb (owner_of ps g) k.loop (owner_zero g p (left_high g h) ∙ sym loop_is)))))));
          c_is = omega (arith, same.c_is);
          no_fact = λ g. refl;
          ring_no_fact = λ r. refl;
          times = λ g p q f. (
              let z : when (is_left n key k [] y.facts (st (suc (suc m)) 0) g) 1 ≡
              when (is_left ring rkey k [] x.facts (st (suc (suc m)) 0) (rank bs g)) 1 =
              ap (λ (b : Bool). when b 1) (alike g p q f) in
              omega (arith, z, same.times g p q f));
          barred = λ g f. (
              let z : when (is_left n key k [] y.facts (st (suc (suc m)) 0) g) 1 ≡ 0 = ap (λ (b : Bool). when b 1)
              (left_free g f) in
              omega (arith, z, same.barred g f));
          beyond = λ g h. (
              let z : when (is_left n key k [] y.facts (st (suc (suc m)) 0) g) 1 ≡ 0 =
              ap (λ (b : Bool). when b 1)
              (false_by (λ (w : is_left n key k [] y.facts (st (suc (suc m)) 0) g ≡ true). omega
              (arith, left_high g w, h))) in
              omega (arith, z, same.beyond g h));
        }
      where
        around : (g : ℕ) → g ≤ last → g ≤ end_of ps k.loop
        around g h =
            let z : end_of ps k.loop ≡ end_of ps 0 = ap (end_of ps) loop_is in
            omega (arith, h, z, outermost ps shape)

  any_step : (a v : ℕ) (x y : Count) → (step ring rkey k [] (st a v) x).fine ≡ true → Same x y →
      Same (step ring rkey k [] (st a v) x) (step n key k [] (st a v) y)
  any_step zero v x y f s =
      let z = and_true x.fine _ f in
      let w = and_true (ltb 0 k.from) _ z.1 in
      absurd (omega (arith, ltb-true 0 k.from w.0, from_is))
  any_step (suc zero) v x y f s =
      let z = and_true x.fine _ f in
      let w = and_true (ltb 0 k.upto) _ z.1 in
      absurd (omega (arith, ltb-true 0 k.upto w.0, upto_is))
  any_step (suc (suc m)) zero x y f s =
      let z = and_true x.fine _ f in
      let w = and_true (ltb m (length (reduced_deps bs top ds))) _ z.1 in
      same_step m x y s (omega (arith, ltb-true m (length (reduced_deps bs top ds)) w.0, reduced_length bs top ds))
  any_step (suc (suc m)) (suc v) x y f s =
      let z = and_true x.fine _ f in
      let w = and_true (ltb m (length (reduced_deps bs top ds))) _ z.1 in
      let u = and_true (is_led ring rkey k.loop [] (suc v)) _ w.1 in
      let t = and_true (ltb v 0) _ u.0 in
      absurd (omega (arith, ltb-true v 0 t.0))

  all_steps : (ss : List Step) (x y : Count) → (run ring rkey k [] ss x).fine ≡ true → Same x y →
      Same (run ring rkey k [] ss x) (run n key k [] ss y)
  all_steps [] x y f s = s
  all_steps (a ∷ ss) x y f s =
      all_steps ss (step ring rkey k [] a x) (step n key k [] a y) f
      (any_step a.set a.via x y (run_fine ring rkey k [] ss (step ring rkey k [] a x) f) s)

  begins : Same begun begun
  begins =
      record {
        fine = refl;
        c_is = refl;
        no_fact = λ g. refl;
        ring_no_fact = λ r. refl;
        times = λ g p q f. refl;
        barred = λ g f. refl;
        beyond = λ g h. refl;
      }

  pub claim_kept : loop_count n key 0 ≤ loop_count ring rkey 0 →
      ended ring rkey k (run ring rkey k [] k.steps begun) ≡ true →
      ended n key k (run n key k [] k.steps begun) ≡ true
  claim_kept fewer h =
      let f : (run ring rkey k [] k.steps begun).fine ≡ true =
      (and_true (run ring rkey k [] k.steps begun).fine _ h).0 in
      go (run ring rkey k [] k.steps begun) (run n key k [] k.steps begun)
      (all_steps k.steps begun begun f begins) h
    where
      go : (x y : Count) → Same x y → ended ring rkey k x ≡ true → ended n key k y ≡ true
      go x y s h =
          let z = and_true x.fine _ h in
          let w = and_true (is_do (ring_points top) k.loop) _ z.1 in
          let loop : is_do ps k.loop ≡ true = rw loop_is (starts_with_do ps shape) in
          let low : (eqb k.from 0 && eqb k.upto 0) ≡ true = and_intro (eq-eqb k.from 0 from_is)
          (eq-eqb k.upto 0 upto_is) in
          let gr : ℕ = greatest x.times (length (ring_points top)) in
          let gn : ℕ = greatest y.times (length ps) in
          let u : lots (greatest x.times (length (ring_points top))) (loop_count ring rkey k.loop) <
          x.c + when (eqb k.from 0 && eqb k.upto 0) (greatest x.times (length (ring_points top))) = ltb-true
          _ _ w.1 in
          let v : when (eqb k.from 0 && eqb k.upto 0) (greatest x.times (length (ring_points top))) ≡
          greatest x.times (length (ring_points top)) = rw low in
          let t : when (eqb k.from 0 && eqb k.upto 0) (greatest y.times (length ps)) ≡ greatest y.times
          (length ps) = rw low in
          let a : loop_count n key k.loop ≡ loop_count n key 0 = ap (loop_count n key) loop_is in
          let b : loop_count ring rkey k.loop ≡ loop_count ring rkey 0 = ap (loop_count ring rkey) loop_is in
          let le : greatest y.times (length ps) ≤ greatest x.times (length (ring_points top)) =
          greatest_in y.times (greatest x.times (length (ring_points top))) (length ps)
          (greatest_pos x.times (length (ring_points top))) (each x y s) in
          let r : lots (greatest y.times (length ps)) (loop_count n key k.loop) < x.c + greatest y.times
          (length ps) =
          low_kept (greatest y.times (length ps)) (greatest x.times (length (ring_points top)))
          (loop_count n key k.loop)
          (loop_count ring rkey k.loop) x.c (greatest_pos y.times (length ps)) le (omega (arith, a, b, fewer))
          (omega (arith, u, v)) in
          let done : lots (greatest y.times (length ps)) (loop_count n key k.loop) <
          y.c + when (eqb k.from 0 && eqb k.upto 0) (greatest y.times (length ps)) = omega
          (arith, r, t, s.c_is) in
          and_intro s.fine (and_intro loop (lt-ltb _ _ done))
        where
          each : (x y : Count) → Same x y → (g : ℕ) → 0 < g → g ≤ length ps →
              y.times g ≤ greatest x.times (length (ring_points top))
          each x y s g p q = ⊎_elim
              (λ (z : g ≤ last). ⊎_elim
              (λ (f : is_free bs g ≡ true). (
              let lo : 0 < rank bs g = rank_first bs g f p in
              let hi : rank bs g ≤ top = rank_monotone bs g last z in
              omega (
                arith,
                s.times g p z f,
                greatest_at x.times (length (ring_points top)) (rank bs g) lo
                    (omega (arith, hi, lo, top_short (omega (arith, lo, hi)))),
              )))
              (λ (f : is_free bs g ≡ false). omega (arith, s.barred g f))
              (test (is_free bs g)))
              (λ (z : last < g). omega (arith, s.beyond g z))
              (le_or g last)
