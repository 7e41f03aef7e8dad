-- Every claim of the argument holds, where the claims of the loops inside are known.
-- Main definitions: `Low`, `Side`. Main statement: `head_holds`.
use mathlib.Core.Path.{◌≡◌, refl, sym, ap, ◌∙◌}
use mathlib.Core.Bool.{true, false, ◌&&◌}
use mathlib.Core.List.{List}
use mathlib.Core.Logic.{◌⊎◌, inl, inr, ⊎_elim}
use Prim.Native.Nat.{ℕ, zero, suc, ◌+◌, ◌≤◌, ◌<◌}
use native.Mathlib.Omega.{arith}
use lib.Dec.{eqb, ltb}
use lib.ListN.{length}
use borrow.Author.Tests.{eqb-true, eq-eqb, ltb-true, ltb-false, lt-ltb}
use Rattle.laws.specs.Choice.{when}
use Rattle.laws.proofs.Choices.{pick_by}
use Rattle.laws.proofs.Tests.{le_or, and_true, and_false, and_intro, false_by}
use Rattle.paper_nests.specs.Nests.{Dep, Nest}
use Rattle.paper_nests.specs.Loops.{is_do, end_of}
use Rattle.paper_placements.specs.Placements.{loop_count}
use Rattle.plan_method.specs.Sweep.{Tables, State, put, need_of, sweep, IsTable}
use Rattle.plan_method.specs.Home.{loops_in, lines_in, reach_of}
use Rattle.plan_method.proofs.World.{Lawful}
use Rattle.plan_method.proofs.Walk.{AtChild}
use Rattle.plan_method.proofs.Claim.{Laid}
use Rattle.plan_method.proofs.Theorem as PT
use Rattle.plan_method.proofs.Instance.{world_of, AllFit}
use Rattle.argue_claims.specs.Arguments.{Claim, Known, Count, claim, greatest, lots, is_low, run, ended, begun}
use Rattle.argue_claims.proofs.Lots.{lots_zero, lots_suc, lots_le, lots_swap, greatest_in}
use Rattle.argue_key.specs.Laps.{suffix_of, lap_need, close_up, lap_swept, lap_end, laps, before}
use Rattle.argue_key.specs.Laps.{Head, few_for, steps_for}
use Rattle.argue_key.proofs.Traces.{KidSays}
use Rattle.argue_key.proofs.Lapping.{Worse, Enough, laps_enough}
use Rattle.argue_key.proofs.Closing as C
use Rattle.argue_key.proofs.Choosing.{Suffix, suffix_is, lap_sets}

before_is : (m u : ℕ) → u ≡ before m → 0 < m → suc u ≡ m
before_is zero u h p = absurd (omega arith)
before_is (suc m) u h p = omega (arith, h)

before_none : (m u : ℕ) → u ≡ before m → m ≡ 0 → u ≡ 0
before_none zero u h p = h
before_none (suc m) u h p = absurd (omega arith)

close_up_cases : (P : State → Type 0) (d b : ℕ) (s : State) → (0 < b → b < s.f → P (put d s)) →
    ((b ≡ 0) ⊎ (s.f ≤ b) → P s) → P (close_up d b s)
unfolding close_up
close_up_cases P d b s yes' no' =
    pick_by P
    (λ z. (let h = and_true (ltb 0 b) (ltb b s.f) z in yes' (ltb-true 0 b h.0) (ltb-true b s.f h.1)))
    (λ z. no' (⊎_elim (λ (h : ltb 0 b ≡ false). inl (omega (arith, ltb-false 0 b h)))
    (λ (h : ltb b s.f ≡ false). inr (ltb-false b s.f h)) (and_false (ltb 0 b) (ltb b s.f) z)))

module _
    (n : Nest) (key : List ℕ) (laws : Lawful (world_of n.points n.deps) (lines_in n.points n.deps))
    (fit : AllFit n.points n.deps) (T : Tables)
    (table : IsTable (loops_in n.points) (lines_in n.points n.deps) T)
    (costs : (m : ℕ) → is_do n.points m ≡ true → loop_count n key m ≡ T.cost m) where
  abbrev ps : List ℕ
  ps = n.points

  abbrev ds : List Dep
  ds = n.deps

  -- the fronts of a row lie in the loop's range
  pub left_low : (d q : ℕ) → is_do ps d ≡ true → d < q → q ≤ end_of ps d → 0 < T.left d q → d < T.left d q
  left_low d q h a b p =
      let l : Laid (world_of ps ds) T d q (T.lay d q) =
      (PT.claim (world_of ps ds) (lines_in ps ds) laws T table d h).attained q a b p in
      l.low (T.left d q) l.holds

  pub left_high : (d q : ℕ) → is_do ps d ≡ true → d < q → q ≤ end_of ps d → T.left d q ≤ end_of ps d
  left_high d q h a b = ⊎_elim
      (λ (z : T.left d q ≤ 0). omega (arith, z))
      (λ (z : 0 < T.left d q). (
      let l : Laid (world_of ps ds) T d q (T.lay d q) =
      (PT.claim (world_of ps ds) (lines_in ps ds) laws T table d h).attained q a b z in
      l.high (T.left d q) l.holds))
      (le_or (T.left d q) 0)

  -- a loop's low claim, and the others
  pub record Low (h : Head) : Type 0 where
    pub from_is : h.from ≡ 0
    pub upto_is : h.upto ≡ 0
    pub some : 0 < T.cost h.loop

  pub record Side (h : Head) : Type 0 where
    pub pos : 0 < h.loop
    pub at : ℕ
    pub low : h.loop < at
    pub high : at ≤ end_of ps h.loop
    pub from_is : (h.from ≡ at) ⊎ ((h.from ≡ 0) × (at ≡ suc h.loop))
    pub upto_is : h.upto ≡ before (T.left h.loop at)
    pub proper : T.left h.loop at ≡ suc h.loop → ⊥

  module _ (h : Head) (is-do : is_do ps h.loop ≡ true) (busy : 0 < T.left h.loop (suc h.loop))
      (kind : Low h ⊎ Side h) (lead : ℕ → ℕ → ℕ) where
    abbrev d : ℕ
    d = h.loop

    abbrev e : ℕ
    e = end_of ps h.loop

    abbrev k : Claim
    k = claim h.loop h.from h.upto (steps_for ps ds T lead h)

    abbrev few : ℕ
    few = few_for T h

    long : d < e
    long = laws.of-loops.long d is-do

    from_low : 0 < h.from → d < h.from
    from_low p = ⊎_elim (λ (z : Low h). absurd (omega (arith, z.from_is, p)))
        (λ (z : Side h). ⊎_elim (λ (y : h.from ≡ z.at). omega (arith, y, z.low))
        (λ (y : (h.from ≡ 0) × (z.at ≡ suc h.loop)). absurd (omega (arith, y.0, p))) z.from_is) kind

    from_high : h.from ≤ e
    from_high = ⊎_elim (λ (z : Low h). omega (arith, z.from_is))
        (λ (z : Side h). ⊎_elim (λ (y : h.from ≡ z.at). omega (arith, y, z.high))
        (λ (y : (h.from ≡ 0) × (z.at ≡ suc h.loop)). omega (arith, y.0)) z.from_is) kind

    -- no front, and nothing up to; or up to right before the front
    pub side_cases : (z : Side h) →
        ((T.left d z.at ≡ 0) × (h.upto ≡ 0)) ⊎ ((suc h.upto ≡ T.left d z.at) × (0 < h.upto))
    side_cases z = ⊎_elim
        (λ (y : T.left d z.at ≤ 0). (
        let w : T.left d z.at ≡ 0 = omega (arith, y) in
        inl (w, before_none (T.left d z.at) h.upto z.upto_is w)))
        (λ (y : 0 < T.left d z.at). (
        let w : suc h.upto ≡ T.left d z.at = before_is (T.left d z.at) h.upto z.upto_is y in
        inr (w, omega (arith, w, left_low d z.at is-do z.low z.high y, z.pos))))
        (le_or (T.left d z.at) 0)

    upto_in : h.upto ≤ e
    upto_in = ⊎_elim (λ (z : Low h). omega (arith, z.upto_is))
        (λ (z : Side h). ⊎_elim (λ (y : (T.left d z.at ≡ 0) × (h.upto ≡ 0)). omega (arith, y.1))
        (λ (y : (suc h.upto ≡ T.left d z.at) × (0 < h.upto)).
        omega (arith, y.0, left_high d z.at is-do z.low z.high)) (side_cases z)) kind

    -- which it is, as the claim's test says
    low_test : Low h → (eqb h.from 0 && eqb h.upto 0) ≡ true
    low_test z = and_intro (eq-eqb h.from 0 z.from_is) (eq-eqb h.upto 0 z.upto_is)

    side_test : Side h → (eqb h.from 0 && eqb h.upto 0) ≡ false
    side_test z = false_by (λ (y : (eqb h.from 0 && eqb h.upto 0) ≡ true).
        (let w = and_true (eqb h.from 0) (eqb h.upto 0) y in
        let a : h.from ≡ 0 = eqb-true h.from 0 w.0 in
        let b : h.upto ≡ 0 = eqb-true h.upto 0 w.1 in
        ⊎_elim (λ (v : h.from ≡ z.at). omega (arith, v, a, z.low))
        (λ (v : (h.from ≡ 0) × (z.at ≡ suc h.loop)). (
        let o : T.left d z.at ≡ T.left d (suc d) = ap (T.left d) v.1 in
        ⊎_elim (λ (u : (T.left d z.at ≡ 0) × (h.upto ≡ 0)). omega (arith, u.0, o, busy))
        (λ (u : (suc h.upto ≡ T.left d z.at) × (0 < h.upto)). omega (arith, u.1, b)) (side_cases z)))
        z.from_is))

    few_low : Low h → suc few ≡ T.cost d
    few_low z =
        let w : few_for T h ≡ before (T.cost d) = rw (low_test z) in
        before_is (T.cost d) (few_for T h) w z.some

    few_side : Side h → few ≡ T.cost d
    few_side z = rw (side_test z)

    -- every lap is worse
    module _ (f : ℕ) (f_low : d < f) (f_high : f ≤ suc e) where
      abbrev q : ℕ
      q = (suffix_of ps ds d h.from f).at

      suf : Suffix n key k laws fit is-do from_low from_high f (suffix_of ps ds d h.from f)
      suf = suffix_is n key k laws fit is-do from_low from_high f

      abbrev s : State
      s = sweep (loops_in ps) T (need_of (reach_of ps ds d) q e) d

      near : s.f ≤ f → C.Costs (world_of ps ds) (lines_in ps ds) laws T table d is-do busy q f suf.low
          suf.high f_low f_high
          suf.covers s.c s.f
      near = C.near (world_of ps ds) (lines_in ps ds) laws T table d is-do busy q f suf.low suf.high f_low f_high
          suf.covers

      far : f < s.f → C.Costs (world_of ps ds) (lines_in ps ds) laws T table d is-do busy q f suf.low
          suf.high f_low f_high
          suf.covers (suc s.c) (suc d)
      far = C.far (world_of ps ds) (lines_in ps ds) laws T table d is-do busy q f suf.low suf.high f_low f_high
          suf.covers

      record Bad (v : State) : Type 0 where
        at_least : few ≤ v.c
        further : v.c ≤ few → f < v.f

      low_bad : Low h → Bad s
      low_bad z = ⊎_elim
          (λ (y : s.f ≤ f). record {
            at_least = omega (arith, (near y).at_least, few_low z);
            further = λ w. absurd (omega (arith, (near y).at_least, few_low z, w));
          })
          (λ (y : f < s.f). record { at_least = omega (arith, (far y).at_least, few_low z); further = λ w. y })
          (le_or s.f f)

      at_is : (z : Side h) → (z.at ≤ q) ⊎ (z.at ≡ suc d)
      at_is z = ⊎_elim (λ (y : h.from ≡ z.at). inl (omega (arith, y, suf.from_le)))
          (λ (y : (h.from ≡ 0) × (z.at ≡ suc h.loop)). inr y.1) z.from_is

      -- where the front is beyond, the barrier right after the DO is one too many
      far_side : (z : Side h) → ((T.left d z.at ≡ 0) ⊎ (suc d < T.left d z.at)) → f < s.f → T.cost d ≤ s.c
      far_side z o y =
          let w : suc s.c ≡ T.cost d → ⊥ = λ u. (let v = (far y).front u z.at z.low (at_is z) in
          ⊎_elim (λ (p : T.left d z.at ≡ 0). omega (arith, v.0, p)) (λ (p : suc d < T.left d z.at). omega
          (arith, v.1, p)) o) in
          omega (arith, (far y).at_least, w)

      near_side : (z : Side h) → ((T.left d z.at ≡ 0) ⊎ (s.f < T.left d z.at)) → s.f ≤ f → T.cost d < s.c
      near_side z o y =
          let w : s.c ≡ T.cost d → ⊥ = λ u. (let v = (near y).front u z.at z.low (at_is z) in
          ⊎_elim (λ (p : T.left d z.at ≡ 0). omega (arith, v.0, p)) (λ (p : s.f < T.left d z.at). omega
          (arith, v.1, p)) o) in
          omega (arith, (near y).at_least, w)

      kept_side : (z : Side h) → ((T.left d z.at ≡ 0) ⊎ (suc d < T.left d z.at)) →
          ((T.left d z.at ≡ 0) ⊎ (s.f < T.left d z.at)) → Bad s
      kept_side z o p = ⊎_elim
          (λ (y : s.f ≤ f). record {
            at_least = omega (arith, near_side z p y, few_side z);
            further = λ w. absurd (omega (arith, near_side z p y, few_side z, w));
          })
          (λ (y : f < s.f). record { at_least = omega (arith, far_side z o y, few_side z); further = λ w. y })
          (le_or s.f f)

      put_side : (z : Side h) → suc d < T.left d z.at → T.cost d < suc s.c
      put_side z o = ⊎_elim (λ (y : s.f ≤ f). omega (arith, (near y).at_least))
          (λ (y : f < s.f). omega (arith, far_side z (inr o) y)) (le_or s.f f)

      bad : ((0 < h.upto) → d < h.upto) → Bad (close_up d h.upto s)
      unfolding put
      bad proper = ⊎_elim
          (λ (z : Low h). close_up_cases Bad d h.upto s (λ a b. absurd (omega (arith, a, z.upto_is)))
          (λ o. low_bad z))
          (λ (z : Side h). ⊎_elim
          (λ (y : (T.left d z.at ≡ 0) × (h.upto ≡ 0)).
          close_up_cases Bad d h.upto s (λ a b. absurd (omega (arith, a, y.1)))
          (λ o. kept_side z (inl y.0) (inl y.0)))
          (λ (y : (suc h.upto ≡ T.left d z.at) × (0 < h.upto)).
          (let far_on : suc d < T.left d z.at = omega (arith, y.0, proper y.1) in
          close_up_cases Bad d h.upto s
          (λ a b. record {
            at_least = omega (arith, put_side z far_on, few_side z);
            further = λ w. absurd (omega (arith, put_side z far_on, few_side z, w));
          })
          (λ o. ⊎_elim (λ (u : h.upto ≡ 0). absurd (omega (arith, u, y.1)))
          (λ (u : s.f ≤ h.upto). kept_side z (inr far_on) (inr (omega (arith, u, y.0)))) o)))
          (side_cases z)) kind

    proper : (0 < h.upto) → d < h.upto
    proper p = ⊎_elim (λ (z : Low h). absurd (omega (arith, z.upto_is, p)))
        (λ (z : Side h). ⊎_elim (λ (y : (T.left d z.at ≡ 0) × (h.upto ≡ 0)). absurd (omega (arith, y.1, p)))
        (λ (y : (suc h.upto ≡ T.left d z.at) × (0 < h.upto)).
        omega (arith, y.0, z.proper, left_low d z.at is-do z.low z.high (omega (arith, y.0))))
        (side_cases z)) kind

    abbrev end_at : ℕ → State
    end_at = lap_end ps ds T lead d h.from h.upto few

    -- a lap counts enough, or its front lies further on
    pub lap_worse : (f : ℕ) → d < f → f ≤ suc e → (few ≤ (end_at f).c) × ((end_at f).c ≤ few → f < (end_at f).f)
    unfolding lap_end lap_swept lap_need
    lap_worse f u w =
        let b : Bad f u w
        (close_up d h.upto (sweep (loops_in ps) T (need_of (reach_of ps ds d) (suffix_of ps ds d h.from f).at e)
        d)) =
        bad f u w proper in
        (b.at_least, b.further)

    module _ (ks : List Known)
        (kids : (p l : ℕ) → AtChild (loops_in ps) h.loop p l → KidSays n key h.loop ks T lead l) where
      worse : (f : ℕ) → d < f → f ≤ suc e → Worse n key k ks laws.of-loops T is-do lead few kids f
      worse f u w = let r = lap_worse f u w in record { at_least = r.0; further = r.1 }

      -- laps from a front right after the DO
      by_laps : Enough n key k ks laws.of-loops T is-do lead few kids
          (run n key k ks (laps ps ds T lead d h.from h.upto few (suc (suc e)) (suc d)) begun)
      by_laps =
          laps_enough n key k ks laws.of-loops T is-do lead few kids
          (λ f u w. lap_sets n key k laws fit is-do from_low from_high f) upto_in worse
          (suc (suc e)) 0 (suc d) begun (omega arith) (omega arith) (omega (arith, long)) (sym (lots_zero few))
          (record {
            fine = refl;
            outs = λ g a b c o. absurd (omega (arith, a, b));
            most = λ g. omega arith;
            fewer = λ g a b. absurd (omega (arith, a, b));
          })

      all_steps : Enough n key k ks laws.of-loops T is-do lead few kids
          (run n key k ks (steps_for ps ds T lead h) begun)
      unfolding steps_for
      all_steps = by_laps

      pub head_holds : ended n key k (run n key k ks k.steps begun) ≡ true
      head_holds =
          let x : Count = run n key k ks (steps_for ps ds T lead h) begun in
          and_intro all_steps.fine
          (and_intro is-do (lt-ltb _ _ (enough (run n key k ks (steps_for ps ds T lead h) begun) all_steps)))
        where
          enough : (x : Count) → Enough n key k ks laws.of-loops T is-do lead few kids x →
              lots (greatest x.times (length ps)) (loop_count n key d) < x.c + when (is_low k)
              (greatest x.times (length ps))
          enough x r =
              let m : greatest x.times (length ps) ≤ r.laps = greatest_in x.times r.laps (length ps) r.pos
              (λ g p q. r.most g) in
              let u : lots (greatest x.times (length ps)) few ≤ lots r.laps few =
              lots_le (greatest x.times (length ps)) r.laps few m in
              let v : lots r.laps few ≡ lots few r.laps = lots_swap r.laps few in
              ⊎_elim
              (λ (z : Low h). (
              let c : loop_count n key d ≡ suc few = costs d is-do ∙ sym (few_low z) in
              let o : lots (greatest x.times (length ps)) (loop_count n key d) ≡ lots
              (greatest x.times (length ps)) (suc few) =
              ap (lots (greatest x.times (length ps))) c in
              let w : when (is_low k) (greatest x.times (length ps)) ≡ greatest x.times (length ps) = rw
              (low_test z) in
              omega (arith, u, v, r.enough, o, w, lots_suc (greatest x.times (length ps)) few)))
              (λ (z : Side h). (
              let c : loop_count n key d ≡ few = costs d is-do ∙ sym (few_side z) in
              let o : lots (greatest x.times (length ps)) (loop_count n key d) ≡ lots
              (greatest x.times (length ps)) few =
              ap (lots (greatest x.times (length ps))) c in
              omega (arith, u, v, r.enough, o)))
              kind
