-- The steps of a claim, one after the other, and what the claim then says of a correct placement: the number of its own
-- gaps times the most times that a gap was named is at least what was counted.
-- Main definitions: `Supposed`, `Good`. Main statements: `step_good`, `run_good`, `low_end`, `more_end`, `stand_end`.
use mathlib.Core.Path.{◌≡◌, refl, ap}
use mathlib.Core.Bool.{Bool, true, false, ◌&&◌, ◌||◌, not}
use mathlib.Core.List.{List, [], ◌∷◌}
use mathlib.Core.Logic.{◌⊎◌, inl, inr, ⊎_elim}
use Prim.Native.Nat.{ℕ, zero, suc, ◌+◌, ◌≤◌, ◌<◌}
use native.Mathlib.Omega.{arith}
use lib.Dec.{eqb, ltb, leb}
use lib.ListN.{length}
use borrow.Author.Tests.{eq-eqb, leb-true, le-leb, ltb-true}
use Rattle.laws.specs.Choice.{when, is_in}
use Rattle.laws.proofs.Tests.{test, never, never_both, or-true, and_true, and_intro, lt_by, le_by, false_by}
use Rattle.laws.proofs.Implies.{implied}
use Rattle.paper_nests.specs.Nests.{Nest}
use Rattle.paper_nests.specs.Valid.{is_shape}
use Rattle.paper_nests.specs.Loops.{is_do, end_of, owner_of, is_around, in_loop}
use Rattle.paper_placements.specs.Placements.{is_correct, loop_count}
use Rattle.paper_placements.proofs.Cuts.{correct_gaps, correct_cuts, cut_has_gap, CutBy}
use Rattle.paper_placements.proofs.Rising.{rising_in}
use Rattle.paper_order.proofs.LoopOrder.{SameInside}
use Rattle.argue_claims.specs.Arguments.{Step, Claim, Known, Count, st, every, greatest, known_at, dep_at, named}
use Rattle.argue_claims.specs.Arguments.{lots, fact_out, is_out, in_set, is_set, is_led, leads, is_left, counted}
use Rattle.argue_claims.specs.Arguments.{facts_after, step, run, is_low, ended, begun}
use Rattle.argue_claims.proofs.Lots.{lots_suc, lots_more, greatest_at, every_at}
use Rattle.argue_claims.proofs.Listed.{dep_among, known_among, run_fine}
use Rattle.argue_claims.proofs.Weights.{Fair, weigh_most, weigh_exact}
use Rattle.argue_claims.proofs.Steps.{Holds, Has, counting, leading}
use Rattle.argue_claims.proofs.Outs.{AllSaid, from_on, up_to, same_within, out_told}

-- facts that follow from others
tell : (gs : List ℕ) (c : ℕ) (t : ℕ → ℕ) (A B : ℕ → Type 0) → ((g : ℕ) → B g → A g) → Holds gs c t A → Holds gs c t B
tell gs c t A B f h = record { enough = h.enough; told = λ e g z. h.told e g (f g z) }

module _ (n : Nest) (key gs : List ℕ) (shape : is_shape n.points ≡ true) (ok : is_correct n gs ≡ true) where
  bounds : (g : ℕ) → is_in g gs ≡ true → (0 < g) × (g < length n.points)
  bounds g h = rising_in 0 (length n.points) gs g (correct_gaps n gs ok) h

  -- what a claim supposes of the placement
  pub record Supposed (k : Claim) : Type 0 where
    pub is-do : is_do n.points k.loop ≡ true
    pub same : SameInside n gs key k.loop
    pub from : 0 < k.from → Has gs (from_on n k.loop k.from)
    pub upto : 0 < k.upto → Has gs (up_to n k.loop k.upto)

  -- the placement has a gap in every set
  set_has : (k : Claim) → Supposed k → (s : ℕ) → is_set n key k s ≡ true → Has gs (in_set n key k s)
  set_has k u zero h = go (u.from (ltb-true 0 k.from h))
    where
      go : Has gs (from_on n k.loop k.from) → Has gs (in_set n key k 0)
      go i =
          let a = and_true (is_around n.points i.gap k.loop) (leb k.from i.gap) i.inside in
          let b = and_true (ltb k.loop i.gap) (leb i.gap (end_of n.points k.loop)) a.0 in
          record { gap = i.gap; has = i.has; inside = and_intro h (and_intro a.1 b.1) }
  set_has k u (suc zero) h = go (u.upto (ltb-true 0 k.upto h))
    where
      go : Has gs (up_to n k.loop k.upto) → Has gs (in_set n key k 1)
      go i =
          let a = and_true (is_around n.points i.gap k.loop) (leb i.gap k.upto) i.inside in
          let b = and_true (ltb k.loop i.gap) (leb i.gap (end_of n.points k.loop)) a.0 in
          record {
            gap = i.gap;
            has = i.has;
            inside = and_intro (le-leb (suc k.loop) i.gap (ltb-true k.loop i.gap b.0)) a.1;
          }
  set_has k u (suc (suc m)) h =
      go (cut_has_gap n.points (dep_at n.deps m) gs (correct_cuts n gs ok (dep_at n.deps m)
      (dep_among n.deps m (ltb-true m (length n.deps) h))))
    where
      go : CutBy n.points (dep_at n.deps m) gs → Has gs (in_set n key k (suc (suc m)))
      go c = record { gap = c.gap; has = c.placed; inside = c.its }

  -- the invariant of the steps
  pub record Good (k : Claim) (x : Count) : Type 0 where
    pub holds : Holds gs x.c x.times (λ g. fact_out n key x.facts g ≡ true)
    pub owned : (g : ℕ) → 0 < g → g ≤ length n.points → eqb (owner_of n.points g) k.loop ≡ false →
        x.times g ≡ 0

  module _ (k : Claim) (u : Supposed k) (ks : List Known) (all : AllSaid n key gs ks) where
    module _ (s : Step) (x : Count) (good : Good k x) where
      abbrev told : ℕ → Type 0
      told g = fact_out n key x.facts g ≡ true

      -- what is left by claim v - 1, or by none, and what the test of a step says of each gap
      abbrev left : ℕ → ℕ → Bool
      left v = is_left n key k ks x.facts (st s.set v)

      abbrev fits : ℕ → ℕ → Bool
      fits v g =
          (not (in_set n key k s.set g) || is_around n.points g k.loop) &&
          (not (left v g) || eqb (owner_of n.points g) k.loop)

      -- a gap of the placement in the set is left, led, or out by a fact
      split : (v g : ℕ) → fits v g ≡ true → is_in g gs ≡ true → in_set n key k s.set g ≡ true →
          (left v g ≡ true) ⊎ ((leads n key ks v g ≡ true) ⊎ told g)
      split v g f h i = go (test (is_out n key k.loop ks x.facts g)) (test (leads n key ks v g))
        where
          around : is_around n.points g k.loop ≡ true
          around =
              implied (in_set n key k s.set g) (is_around n.points g k.loop)
              (and_true (not (in_set n key k s.set g) || is_around n.points g k.loop) _ f).0 i

          go : (is_out n key k.loop ks x.facts g ≡ true) ⊎ (is_out n key k.loop ks x.facts g ≡ false) →
              (leads n key ks v g ≡ true) ⊎ (leads n key ks v g ≡ false) →
              (left v g ≡ true) ⊎ ((leads n key ks v g ≡ true) ⊎ told g)
          go (inl z) w =
              let b = bounds g h in
              let a = and_true (ltb k.loop g) (leb g (end_of n.points k.loop)) around in
              inr (inr (out_told n key gs shape k.loop u.is-do u.same ok ks all x.facts g h b.0 b.1
              (ltb-true k.loop g a.0) (leb-true g (end_of n.points k.loop) a.1) z))
          go (inr z) (inl w) = inr (inl w)
          go (inr z) (inr w) = inl (rw (i, z, w))

      split_in : (v : ℕ) → every (fits v) (length n.points) ≡ true → (g : ℕ) → is_in g gs ≡ true →
          in_set n key k s.set g ≡ true → (left v g ≡ true) ⊎ ((leads n key ks v g ≡ true) ⊎ told g)
      split_in v e g h i =
          let b = bounds g h in
          split v g (every_at (fits v) (length n.points) g e b.0 (omega (arith, b.1))) h i

      step_holds : (v : ℕ) → is_set n key k s.set ≡ true → is_led n key k.loop ks v ≡ true →
          every (fits v) (length n.points) ≡ true →
          Holds gs (counted v x.c) (named (left v) x.times)
          (λ g. fact_out n key (facts_after ks v x.facts) g ≡ true)
      step_holds zero p q e =
          tell gs (suc x.c) _ (λ g. ⊥) (λ g. fact_out n key [] g ≡ true) (λ g z. never z)
          (counting gs x.c x.times told good.holds _ (in_set n key k s.set) (set_has k u s.set p) by)
        where
          by : (g : ℕ) → is_in g gs ≡ true → in_set n key k s.set g ≡ true →
              (left 0 g ≡ true) ⊎ (fact_out n key x.facts g ≡ true)
          by g h i =
              ⊎_elim (λ (z : left 0 g ≡ true). inl z)
              (λ (z : (leads n key ks 0 g ≡ true) ⊎ (fact_out n key x.facts g ≡ true)).
              ⊎_elim (λ (w : leads n key ks 0 g ≡ true). never w) (λ (w : fact_out n key x.facts g ≡ true). inr w) z)
              (split_in 0 e g h i)
      step_holds (suc m) p q e =
          tell gs x.c _ (λ g. (up_to n known.loop known.upto g ≡ true) ⊎ (fact_out n key x.facts g ≡ true))
          (λ g. fact_out n key (facts_after ks (suc m) x.facts) g ≡ true)
          (λ g z. or-true (up_to n known.loop known.upto g) (fact_out n key x.facts g) z)
          (leading gs x.c x.times told good.holds _ (in_set n key k s.set) (set_has k u s.set p)
          (λ g. leads n key ks (suc m) g ≡ true) (λ g. up_to n known.loop known.upto g ≡ true) (split_in (suc m) e)
          both)
        where
          known : Known
          known = known_at ks m

          -- the claim led to: not both
          both : (g j : ℕ) → is_in g gs ≡ true → leads n key ks (suc m) g ≡ true →
              up_to n (known_at ks m).loop (known_at ks m).upto j ≡ true → is_in j gs ≡ false
          both g j h l t = false_by (λ (w : is_in j gs ≡ true).
              (let a = and_true (ltb m (length ks)) _ q in
              let b = and_true (in_loop n.points k.loop (known_at ks m).loop) _ a.1 in
              let c = and_true (ltb 0 (known_at ks m).from) (ltb 0 (known_at ks m).upto) b.1 in
              let said = all (known_at ks m) (known_among ks m (ltb-true m (length ks) a.0)) in
              let f : 0 < (known_at ks m).from = ltb-true 0 (known_at ks m).from c.0 in
              omega (
                arith,
                u.same (known_at ks m).loop said.is-do b.0,
                said.more (same_within n key gs shape k.loop u.is-do u.same (known_at ks m).loop said.is-do
                    b.0) (omega (arith, f)) (λ z. record { gap = g; has = h; inside = l })
                    (λ z. record { gap = j; has = w; inside = t }),
              )))

      step_owned : (v : ℕ) → every (fits v) (length n.points) ≡ true → (g : ℕ) → 0 < g → g ≤ length n.points →
          eqb (owner_of n.points g) k.loop ≡ false → named (left v) x.times g ≡ 0
      step_owned v e g p q o =
          go (left v g) (and_true (not (in_set n key k s.set g) || is_around n.points g k.loop) _
          (every_at (fits v) (length n.points) g e p q)).1
        where
          go : (b : Bool) → (not b || eqb (owner_of n.points g) k.loop) ≡ true → when b 1 + x.times g ≡ 0
          go true z = never_both z o
          go false z = omega (arith, good.owned g p q o)

      pub step_good : (step n key k ks s x).fine ≡ true → Good k (step n key k ks s x)
      step_good f =
          let a = and_true x.fine _ f in
          let b = and_true (is_set n key k s.set) _ a.1 in
          let c = and_true (is_led n key k.loop ks s.via) _ b.1 in
          record { holds = step_holds s.via b.0 c.0 c.1; owned = step_owned s.via c.1 }

    pub run_good : (ss : List Step) (x : Count) → Good k x → (run n key k ks ss x).fine ≡ true →
        Good k (run n key k ks ss x)
    run_good [] x good f = good
    run_good (s ∷ ss) x good f =
        let fine : (step n key k ks s x).fine ≡ true = run_fine n key k ks ss (step n key k ks s x) f in
        run_good ss (step n key k ks s x) (step_good s x good fine) f

    begun_good : Good k begun
    begun_good =
        record { holds = record { enough = omega arith; told = λ e g z. never z }; owned = λ g p q o. refl }

    -- the end of a claim that holds, for a placement that does what it supposes
    module _ (h : ended n key k (run n key k ks k.steps begun) ≡ true) where
      abbrev last : Count
      last = run n key k ks k.steps begun

      abbrev last_most : ℕ
      last_most = greatest last.times (length n.points)

      good : Good k last
      good = run_good k.steps begun begun_good (and_true last.fine _ h).0

      fair : Fair n k.loop last_most last.times gs
      fair =
          record {
            most = λ g i. (let b = bounds g i in
                greatest_at last.times (length n.points) g b.0 (omega (arith, b.1)));
            owned = λ g i o. (let b = bounds g i in good.owned g b.0 (omega (arith, b.1)) o);
          }

      reached : last.c ≤ lots last_most (loop_count n gs k.loop)
      reached = omega (arith, good.holds.enough, weigh_most n k.loop last_most last.times gs fair)

      counts : lots last_most (loop_count n key k.loop) < last.c + when (is_low k) last_most
      counts = ltb-true _ _ (and_true (is_do n.points k.loop) _ (and_true last.fine _ h).1).1

      pub low_end : is_low k ≡ true → loop_count n key k.loop ≤ loop_count n gs k.loop
      low_end e = le_by (λ (z : loop_count n gs k.loop < loop_count n key k.loop).
          (let w : when (is_low k) last_most ≡ last_most = rw e in
          omega (
            arith,
            counts,
            reached,
            w,
            lots_suc last_most (loop_count n gs k.loop),
            lots_more last_most (suc (loop_count n gs k.loop)) (loop_count n key k.loop) z,
          )))

      pub more_end : is_low k ≡ false → loop_count n key k.loop < loop_count n gs k.loop
      more_end e = lt_by (λ (z : loop_count n gs k.loop ≤ loop_count n key k.loop).
          (let w : when (is_low k) last_most ≡ 0 = rw e in
          omega (
            arith,
            counts,
            reached,
            w,
            lots_more last_most (loop_count n gs k.loop) (loop_count n key k.loop) z,
          )))

      pub stand_end : last.c ≡ lots last_most (loop_count n key k.loop) →
          loop_count n gs k.loop ≡ loop_count n key k.loop → (g : ℕ) → is_in g gs ≡ true →
          owner_of n.points g ≡ k.loop → last.times g ≡ last_most
      stand_end e c g i o =
          let z : lots last_most (loop_count n gs k.loop) ≡ lots last_most (loop_count n key k.loop) =
          ap (lots last_most) c in
          weigh_exact n k.loop last_most last.times gs fair (omega (arith, e, z, good.holds.enough)) g i
          (eq-eqb (owner_of n.points g) k.loop o)
