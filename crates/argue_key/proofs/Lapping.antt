-- Lap after lap: each counts at least `few`, and where it counts no more its front lies further on, so some lap counts
-- more; and no gap is named more often than there are laps.
-- Main definitions: `Worse`, `Between`, `Enough`. Main statement: `laps_enough`.
use mathlib.Core.Path.{◌≡◌, refl}
use mathlib.Core.Bool.{Bool, true, false, ◌&&◌}
use mathlib.Core.List.{List, [], ◌∷◌, ◌++◌}
use mathlib.Core.Logic.{◌⊎◌, inl, ⊎_elim}
use Prim.Native.Nat.{ℕ, zero, suc, ◌+◌, ◌≤◌, ◌<◌}
use native.Mathlib.Omega.{arith}
use lib.Dec.{eqb, ltb, leb}
use borrow.Author.Tests.{eq-eqb, ne_eqb, ltb-true, ltb-false, lt-ltb, leb-true}
use Rattle.laws.specs.Choice.{pick}
use Rattle.laws.proofs.Tests.{eq_or, and_true}
use Rattle.paper_nests.specs.Nests.{Nest}
use Rattle.paper_nests.specs.Loops.{is_do, end_of, owner_of}
use Rattle.plan_method.specs.Sweep.{Loops, Tables, State, put, start, sweep}
use Rattle.plan_method.specs.Home.{loops_in}
use Rattle.plan_method.proofs.World.{LoopLaws}
use Rattle.plan_method.proofs.Walk.{AtChild}
use Rattle.argue_claims.specs.Arguments.{Step, Claim, Known, Count, st, leads, is_out, run, lots}
use Rattle.argue_claims.proofs.Lots.{lots_suc}
use Rattle.argue_claims.proofs.Listed.{run_joined}
use Rattle.argue_key.specs.Laps.{trace, lap_need, lap_set, close_up, close_step, is_enough, lap_swept, lap_end}
use Rattle.argue_key.specs.Laps.{lap_steps, laps}
use Rattle.argue_key.proofs.Traces.{Sets, KidSays, Traced, traced, step_fine, step_most}

module _
    (n : Nest) (key : List ℕ) (k : Claim) (ks : List Known) (laws : LoopLaws (loops_in n.points)) (T : Tables)
    (is-do : is_do n.points k.loop ≡ true) (lead : ℕ → ℕ → ℕ) (few : ℕ)
    (kids : (p l : ℕ) → AtChild (loops_in n.points) k.loop p l → KidSays n key k.loop ks T lead l) where
  abbrev B : Loops
  B = loops_in n.points

  abbrev d : ℕ
  d = k.loop

  abbrev e : ℕ
  e = end_of n.points k.loop

  abbrev own : ℕ → ℕ
  own = owner_of n.points

  -- between two laps: so many were run, with this front
  pub record Between (i f : ℕ) (x : Count) : Type 0 where
    pub fine : x.fine ≡ true
    pub outs : (g : ℕ) → d < g → g < f → g ≤ e → (own g ≡ d → ⊥) → is_out n key d ks x.facts g ≡ true
    pub most : (g : ℕ) → x.times g ≤ i
    pub fewer : (g : ℕ) → d < g → g < f → x.times g < i

  -- the supposed gap up to `upto` is a set of its own
  abbrev up_need : ℕ → ℕ
  up_need a = pick (eqb a (suc d)) k.upto (suc e)

  up_sets : (before : ℕ) → 0 < k.upto → k.upto ≤ e → Sets n key k up_need (λ a. 1) before
  up_sets before pos high =
      record {
        is-set = λ a u w z. lt-ltb 0 k.upto pos;
        low = λ a g u w z h. leb-true (suc d) g (and_true (leb (suc d) g) (leb g k.upto) h).0;
        high = λ a g u w z h. omega (
          arith,
          leb-true g k.upto (and_true (leb (suc d) g) (leb g k.upto) h).1,
          high,
        );
        shape = λ a g u w z h. inl (at a g z (leb-true (suc d) g (and_true (leb (suc d) g) (leb g k.upto) h).0)
            (leb-true g k.upto (and_true (leb (suc d) g) (leb g k.upto) h).1));
      }
    where
      at : (a g : ℕ) → up_need a ≤ e → suc d ≤ g → g ≤ k.upto → (a ≤ g) × (g ≤ up_need a)
      at a g z u w = ⊎_elim
          (λ (y : a ≡ suc d).
          (let v : up_need a ≡ k.upto = rw (eq-eqb a (suc d) y) in
          (omega (arith, y, u), omega (arith, v, w))))
          (λ (y : a ≡ suc d → ⊥).
          (let v : up_need a ≡ suc e = rw (ne_eqb a (suc d) y) in
          absurd (omega (arith, v, z))))
          (eq_or a (suc d))

  module _ (before : ℕ) (need set : ℕ → ℕ) (sets : Sets n key k need set before) (upto_in : k.upto ≤ e) (i : ℕ)
      (x : Count) (b : Between i before x) (in_range : before ≤ suc e) where
    begin : Traced n key k ks laws T is-do need set lead before i x.c sets kids e (start e) x
    begin =
        record {
          above = omega arith;
          fits = omega arith;
          fine = b.fine;
          c_is = omega arith;
          outs = λ g a u w o. absurd (omega (arith, a, w));
          fewer = λ g a u. b.most g;
          most = λ g. omega (arith, b.most g);
          fresh = λ z g a u. b.fewer g a u;
          fresh_outs = λ z g a u o. b.outs g a u (omega (arith, u, in_range)) o;
        }

    swept : Traced n key k ks laws T is-do need set lead before i x.c sets kids d (sweep B T need d)
        (run n key k ks (trace B T need set lead d e e (start e)) x)
    swept = traced n key k ks laws T is-do need set lead before i x.c sets kids x begin

    -- the lap's end: what it counted, and what holds between laps
    pub record Ended (s : State) (y : Count) : Type 0 where
      pub c_is : y.c ≡ x.c + s.c
      pub above : d < s.f
      pub fits : s.f ≤ suc e
      pub between : Between (suc i) s.f y

    close_ended : (s : State) (y : Count) → Traced n key k ks laws T is-do need set lead before i x.c sets kids d s
        y →
        Ended (close_up d k.upto s) (run n key k ks (close_step k.upto s.f) y)
    unfolding close_up close_step put
    close_ended s y t = go (ltb 0 k.upto && ltb k.upto s.f) refl
      where
        go : (u : Bool) → (ltb 0 k.upto && ltb k.upto s.f) ≡ u →
            Ended (pick u (put d s) s) (run n key k ks (pick u (st 1 0 ∷ []) []) y)
        go false z =
            record {
              c_is = t.c_is;
              above = t.above;
              fits = t.fits;
              between = record {
                fine = t.fine;
                outs = t.outs;
                most = t.most;
                fewer = λ g a u. omega (arith, t.fewer g a u);
              };
            }
        go true z =
            let h = and_true (ltb 0 k.upto) (ltb k.upto s.f) z in
            let pos : 0 < k.upto = ltb-true 0 k.upto h.0 in
            let far : k.upto < s.f = ltb-true k.upto s.f h.1 in
            let us : Sets n key k up_need (λ a. 1) before = up_sets before pos upto_in in
            let v : up_need (suc d) ≡ k.upto = rw (eq-eqb (suc d) (suc d) refl) in
            let long : d < e = laws.long d is-do in
            let w : Traced n key k ks laws T is-do up_need (λ a. 1) lead before i x.c us kids d s y = record {
              above = t.above;
              fits = t.fits;
              fine = t.fine;
              c_is = t.c_is;
              outs = t.outs;
              fewer = t.fewer;
              most = t.most;
              fresh = t.fresh;
              fresh_outs = t.fresh_outs;
            } in
            let rest : (g : ℕ) → suc d ≤ g → g ≤ up_need (suc d) → (own g ≡ d → ⊥) →
            (is_out n key d ks y.facts g ≡ true) ⊎ (leads n key ks 0 g ≡ true) =
            λ g a c o. inl (t.outs g a (omega (arith, c, v, far)) (omega (arith, c, v, upto_in)) o) in
            let front : (g : ℕ) → suc d ≤ g → g ≤ e → own g ≡ d → suc d ≤ g = λ g a c o. a in
            let cut : up_need (suc d) < s.f = omega (arith, v, far) in
            record {
              c_is = omega (arith, t.c_is);
              above = omega arith;
              fits = omega (arith, long);
              between = record {
                fine = step_fine n key k ks laws T is-do up_need (λ a. 1) lead before i x.c us kids d (suc d) 0
                    (suc d) s y w
                    (omega arith) long cut refl rest front;
                outs = λ g a c u o. absurd (omega (arith, a, c));
                most = step_most n key k ks laws T is-do up_need (λ a. 1) lead before i x.c us kids d (suc d) 0
                    (suc d) s y w
                    (omega arith) long cut refl rest front;
                fewer = λ g a c. absurd (omega (arith, a, c));
              };
            }

  abbrev end_at : ℕ → State
  end_at = lap_end n.points n.deps T lead d k.from k.upto few

  abbrev steps_at : ℕ → List Step
  steps_at = lap_steps n.points n.deps T lead d k.from k.upto few

  abbrev all_laps : ℕ → ℕ → List Step
  all_laps = laps n.points n.deps T lead d k.from k.upto few

  -- a lap counts enough, or its front lies further on
  pub record Worse (f : ℕ) : Type 0 where
    pub at_least : few ≤ (end_at f).c
    pub further : (end_at f).c ≤ few → f < (end_at f).f

  -- more than `few` for each lap, and no gap more often than that
  pub record Enough (x : Count) : Type 0 where
    pub laps : ℕ
    pub pos : 0 < laps
    pub fine : x.fine ≡ true
    pub most : (g : ℕ) → x.times g ≤ laps
    pub enough : lots few laps < x.c

  module _
      (sets : (f : ℕ) → d < f → f ≤ suc e →
      Sets n key k (lap_need n.points n.deps d k.from f) (lap_set n.points n.deps d k.from f) f)
      (upto_in : k.upto ≤ e) (worse : (f : ℕ) → d < f → f ≤ suc e → Worse f) where
    lap_ended : (f : ℕ) (u : d < f) (w : f ≤ suc e) (i : ℕ) (x : Count) (b : Between i f x) →
        Ended f (lap_need n.points n.deps d k.from f) (lap_set n.points n.deps d k.from f) (sets f u w)
        upto_in i x b w (end_at f) (run n key k ks (steps_at f) x)
    unfolding lap_end lap_steps lap_swept
    lap_ended f u w i x b =
        rw (run_joined n key k ks (trace B T (lap_need n.points n.deps d k.from f)
        (lap_set n.points n.deps d k.from f) lead d e e (start e))
        (close_step k.upto (sweep B T (lap_need n.points n.deps d k.from f) d).f) x)
        (close_ended f (lap_need n.points n.deps d k.from f) (lap_set n.points n.deps d k.from f)
        (sets f u w)
        upto_in i x b w _ _
        (swept f (lap_need n.points n.deps d k.from f) (lap_set n.points n.deps d k.from f) (sets f u w)
        upto_in i x b w))

    pub laps_enough : (j i f : ℕ) (x : Count) → suc e < f + j → d < f → f ≤ suc e → x.c ≡ lots few i → Between i f x →
        Enough (run n key k ks (all_laps j f) x)
    unfolding laps
    laps_enough zero i f x fuel u w c b = absurd (omega (arith, fuel, w))
    laps_enough (suc j) i f x fuel u w c b =
        go (is_enough few (end_at f).c) refl (lap_ended f u w i x b) (laps_enough j (suc i) (end_at f).f)
      where
        go : (t : Bool) → is_enough few (end_at f).c ≡ t →
            Ended f (lap_need n.points n.deps d k.from f) (lap_set n.points n.deps d k.from f)
            (sets f u w)
            upto_in i x b w (end_at f) (run n key k ks (steps_at f) x) →
            ((x : Count) → suc e < (end_at f).f + j → d < (end_at f).f → (end_at f).f ≤ suc e → x.c ≡ lots few (suc i) →
            Between (suc i) (end_at f).f x → Enough (run n key k ks (all_laps j (end_at f).f) x)) →
            Enough (run n key k ks (pick t (steps_at f) (steps_at f ++ all_laps j (end_at f).f)) x)
        go true z r h =
            record {
              laps = suc i;
              pos = omega arith;
              fine = r.between.fine;
              most = r.between.most;
              enough = omega (arith, r.c_is, c, lots_suc few i, ltb-true few (end_at f).c z);
            }
        go false z r h =
            let le : (end_at f).c ≤ few = ltb-false few (end_at f).c z in
            rw (run_joined n key k ks (steps_at f) (all_laps j (end_at f).f) x)
            (h (run n key k ks (steps_at f) x) (omega (arith, fuel, (worse f u w).further le)) r.above r.fits
            (omega (arith, r.c_is, c, lots_suc few i, le, (worse f u w).at_least)) r.between)
