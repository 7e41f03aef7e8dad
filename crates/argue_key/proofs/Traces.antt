-- The steps of a sweep are fine: what is left of each set are own gaps of the loop, and no gap is named more often than
-- laps were run.
-- Main definitions: `Sets`, `KidSays`, `Traced`. Main statement: `traced`.
use mathlib.Core.Path.{◌≡◌, refl, ap, ◌∙◌}
use mathlib.Core.Bool.{Bool, true, false, ◌&&◌, ◌||◌, not}
use mathlib.Core.List.{List, [], ◌∷◌, ◌++◌}
use mathlib.Core.Logic.{◌⊎◌, inl, inr, ⊎_elim}
use Prim.Native.Nat.{ℕ, zero, suc, ◌+◌, ◌≤◌, ◌<◌}
use native.Mathlib.Omega.{arith}
use lib.Dec.{eqb, ltb, leb}
use lib.ListN.{length}
use borrow.Author.Tests.{eqb-false, eq-eqb, ltb-true, ltb-false, lt-ltb, leb-true, leb-false, le-leb}
use Rattle.laws.specs.Choice.{pick, when, first_of, is_in}
use Rattle.laws.proofs.Tests.{never, le_or, eq_or, and_true, and_false, and_intro, or-true, or_left, or_right}
use Rattle.laws.proofs.Implies.{implies_by}
use Rattle.paper_nests.specs.Nests.{Nest}
use Rattle.paper_nests.specs.Loops.{is_do, end_of, owner_of, is_around}
use Rattle.paper_placements.specs.Placements.{loop_count}
use Rattle.plan_method.specs.Sweep.{Loops, Tables, State, seek, put, free, inner, outer, step_plain, step_child, child_at}
use Rattle.plan_method.specs.Sweep.{next, walk, start, sweep}
use Rattle.plan_method.specs.Sweep as P
use Rattle.plan_method.specs.Home.{loops_in}
use Rattle.plan_method.proofs.World.{LoopLaws}
use Rattle.plan_method.proofs.Walk.{Sought, seek_is, AtPlain, AtChild, Boundary, stop_bound, after_child, after_plain}
use Rattle.plan_method.proofs.Walk.{child_bound, plain_bound}
use Rattle.argue_claims.specs.Arguments.{Claim, Known, Fact, Count, st, known_at, fact_out, known_out, is_out}
use Rattle.argue_claims.specs.Arguments.{in_set, is_set, is_led, leads, is_left, step, run}
use Rattle.argue_claims.proofs.Lots.{every_by}
use Rattle.argue_claims.proofs.Listed.{run_joined}
use Rattle.argue_key.specs.Laps.{event_plain, event_at, event_child, event, trace}

module _ (n : Nest) (key : List ℕ) (d : ℕ) (ks : List Known) where
  -- more facts, more is out
  pub out_more : (f : Fact) (fs : List Fact) (g : ℕ) → is_out n key d ks fs g ≡ true → is_out n key d ks (f ∷ fs) g ≡ true
  out_more f fs g h =
      ⊎_elim (λ (z : is_in g n.barred ≡ true). or_left _ z)
      (λ (z : (none || (fact_out n key fs g || known_out n key d ks g)) ≡ true). or_right (is_in g n.barred)
      (⊎_elim (λ (y : none ≡ true). or_left _ y)
      (λ (y : (fact_out n key fs g || known_out n key d ks g) ≡ true). or_right none
      (⊎_elim (λ (w : fact_out n key fs g ≡ true). or_left _ (or_right here w))
      (λ (w : known_out n key d ks g ≡ true). or_right (here || fact_out n key fs g) w)
      (or-true (fact_out n key fs g) (known_out n key d ks g) y)))
      (or-true none (fact_out n key fs g || known_out n key d ks g) z)))
      (or-true (is_in g n.barred) (none || (fact_out n key fs g || known_out n key d ks g)) h)
    where
      none : Bool
      none = not (eqb (owner_of n.points g) d) && eqb (loop_count n key (owner_of n.points g)) 0

      here : Bool
      here = is_around n.points g f.loop && leb g f.upto

  -- and what the fact says
  pub out_fact : (f : Fact) (fs : List Fact) (g : ℕ) → f.loop < g → g ≤ end_of n.points f.loop → g ≤ f.upto →
      is_out n key d ks (f ∷ fs) g ≡ true
  out_fact f fs g a b c =
      or_right (is_in g n.barred)
      (or_right (not (eqb (owner_of n.points g) d) && eqb (loop_count n key (owner_of n.points g)) 0)
      (or_left _ (or_left _ (and_intro (and_intro (lt-ltb f.loop g a) (le-leb g (end_of n.points f.loop) b))
      (le-leb g f.upto c)))))

-- the sets that a sweep names: the line from a to its need, or round the loop, up to the front of the lap before
pub record Sets (n : Nest) (key : List ℕ) (k : Claim) (need set : ℕ → ℕ) (before : ℕ) : Type 0 where
  pub is-set : (a : ℕ) → k.loop < a → a ≤ end_of n.points k.loop → need a ≤ end_of n.points k.loop →
      is_set n key k (set a) ≡ true
  pub low : (a g : ℕ) → k.loop < a → a ≤ end_of n.points k.loop → need a ≤ end_of n.points k.loop →
      in_set n key k (set a) g ≡ true → k.loop < g
  pub high : (a g : ℕ) → k.loop < a → a ≤ end_of n.points k.loop → need a ≤ end_of n.points k.loop →
      in_set n key k (set a) g ≡ true → g ≤ end_of n.points k.loop
  pub shape : (a g : ℕ) → k.loop < a → a ≤ end_of n.points k.loop → need a ≤ end_of n.points k.loop →
      in_set n key k (set a) g ≡ true →
      ((a ≤ g) × (g ≤ need a)) ⊎ ((need a ≡ end_of n.points k.loop) × (g < before))

-- what the claims known say of a child l, as its row does
pub record KidSays (n : Nest) (key : List ℕ) (d : ℕ) (ks : List Known) (T : Tables) (lead : ℕ → ℕ → ℕ) (l : ℕ) : Type 0
  where
    pub high : (b : ℕ) → l < b → b ≤ end_of n.points l → T.left l b ≤ end_of n.points l
    pub low : (b : ℕ) → l < b → b ≤ end_of n.points l → 0 < T.left l b → l < T.left l b
    pub led : (b : ℕ) → l < b → b ≤ end_of n.points l → suc l < T.left l b → is_led n key d ks (suc (lead l b)) ≡ true
    pub loop : (b : ℕ) → l < b → b ≤ end_of n.points l → suc l < T.left l b → (known_at ks (lead l b)).loop ≡ l
    pub from : (b : ℕ) → l < b → b ≤ end_of n.points l → suc l < T.left l b → (known_at ks (lead l b)).from ≤ b
    pub upto : (b : ℕ) → l < b → b ≤ end_of n.points l → suc l < T.left l b →
        suc (known_at ks (lead l b)).upto ≡ T.left l b
    pub none_from : (fs : List Fact) (b g : ℕ) → l < b → b ≤ g → g ≤ end_of n.points l → T.left l b ≡ 0 →
        is_out n key d ks fs g ≡ true
    pub none_upto : (fs : List Fact) (g : ℕ) → l < g → g ≤ end_of n.points l →
        (T.left l (suc l) ≡ 0) ⊎ (g < T.left l (suc l)) → is_out n key d ks fs g ≡ true

module _
    (n : Nest) (key : List ℕ) (k : Claim) (ks : List Known) (laws : LoopLaws (loops_in n.points)) (T : Tables)
    (is-do : is_do n.points k.loop ≡ true) (need set : ℕ → ℕ) (lead : ℕ → ℕ → ℕ) (before laps base : ℕ)
    (sets : Sets n key k need set before)
    (kids : (p l : ℕ) → AtChild (loops_in n.points) k.loop p l → KidSays n key k.loop ks T lead l) where
  abbrev B : Loops
  B = loops_in n.points

  abbrev d : ℕ
  d = k.loop

  abbrev e : ℕ
  e = end_of n.points k.loop

  abbrev own : ℕ → ℕ
  own = owner_of n.points

  -- at boundary p: the sweep's state and the count of its steps
  pub record Traced (p : ℕ) (s : State) (x : Count) : Type 0 where
    pub above : p < s.f
    pub fits : s.f ≤ suc e
    pub fine : x.fine ≡ true
    pub c_is : x.c ≡ base + s.c
    pub outs : (g : ℕ) → p < g → g < s.f → g ≤ e → (own g ≡ d → ⊥) → is_out n key d ks x.facts g ≡ true
    pub fewer : (g : ℕ) → d < g → g < s.f → x.times g ≤ laps
    pub most : (g : ℕ) → x.times g ≤ suc laps
    pub fresh : s.f ≡ suc e → (g : ℕ) → d < g → g < before → x.times g < laps
    pub fresh_outs : s.f ≡ suc e → (g : ℕ) → d < g → g < before → (own g ≡ d → ⊥) →
        is_out n key d ks x.facts g ≡ true

  -- a step with the set from b, by a claim or none, and the front after it
  module _ (p b v f : ℕ) (s : State) (x : Count) (i : Traced p s x) (low : d < b) (high : b ≤ e) (uncut : need b < s.f)
      (led : is_led n key d ks v ≡ true)
      (rest : (g : ℕ) → b ≤ g → g ≤ need b → (own g ≡ d → ⊥) →
      (is_out n key d ks x.facts g ≡ true) ⊎ (leads n key ks v g ≡ true))
      (front : (g : ℕ) → b ≤ g → g ≤ e → own g ≡ d → f ≤ g) where
    abbrev after : Count
    after = step n key k ks (st (set b) v) x

    short : need b ≤ e
    short = omega (arith, uncut, i.fits)

    -- a gap of the set that is not the loop's own is not left
    not_left : (g : ℕ) → in_set n key k (set b) g ≡ true → (own g ≡ d → ⊥) →
        (is_out n key d ks x.facts g ≡ true) ⊎ (leads n key ks v g ≡ true)
    not_left g h o =
        ⊎_elim (λ (z : (b ≤ g) × (g ≤ need b)). rest g z.0 z.1 o)
        (λ (z : (need b ≡ e) × (g < before)).
        inl (i.fresh_outs (omega (arith, z.0, uncut, i.fits)) g (sets.low b g low high short h) z.1 o))
        (sets.shape b g low high short h)

    gone : (a u w : Bool) → (u ≡ true) ⊎ (w ≡ true) → (a && (not u && not w)) ≡ true → ⊥
    gone true true w z h = never h
    gone true false true z h = never h
    gone true false false (inl z) h = never z
    gone true false false (inr z) h = never z
    gone false u w z h = never h

    -- what is left is the loop's own
    left_own : (g : ℕ) → is_left n key k ks x.facts (st (set b) v) g ≡ true → own g ≡ d
    left_own g h =
        ⊎_elim (λ (z : own g ≡ d). z)
        (λ (z : own g ≡ d → ⊥). absurd (gone (in_set n key k (set b) g) (is_out n key d ks x.facts g)
        (leads n key ks v g)
        (not_left g (and_true (in_set n key k (set b) g) _ h).0 z) h))
        (eq_or (own g) d)

    pub step_fine : after.fine ≡ true
    step_fine =
        and_intro i.fine (and_intro (sets.is-set b low high short) (and_intro led (every_by _ (length n.points)
        (λ g p q. and_intro
        (implies_by (in_set n key k (set b) g) (is_around n.points g d) (λ h.
        and_intro (lt-ltb d g (sets.low b g low high short h)) (le-leb g e (sets.high b g low high short h))))
        (implies_by (is_left n key k ks x.facts (st (set b) v) g) (eqb (own g) d)
        (λ h. eq-eqb (own g) d (left_own g h)))))))

    -- a gap that is named lies below the front so far
    named_below : (g : ℕ) → in_set n key k (set b) g ≡ true → g < s.f
    named_below g h =
        ⊎_elim (λ (z : (b ≤ g) × (g ≤ need b)). omega (arith, z.1, uncut))
        (λ (z : (need b ≡ e) × (g < before)). omega (arith, z.0, uncut, sets.high b g low high short h))
        (sets.shape b g low high short h)

    pub step_most : (g : ℕ) → after.times g ≤ suc laps
    step_most g = go (is_left n key k ks x.facts (st (set b) v) g) refl
      where
        go : (t : Bool) → is_left n key k ks x.facts (st (set b) v) g ≡ t → when t 1 + x.times g ≤ suc laps
        go true z =
            let h = and_true (in_set n key k (set b) g) _ z in
            omega (arith, i.fewer g (sets.low b g low high short h.0) (named_below g h.0))
        go false z = omega (arith, i.most g)

    pub step_fewer : f ≤ s.f → (g : ℕ) → d < g → g < f → after.times g ≤ laps
    step_fewer le g u w = go (is_left n key k ks x.facts (st (set b) v) g) refl
      where
        go : (t : Bool) → is_left n key k ks x.facts (st (set b) v) g ≡ t → when t 1 + x.times g ≤ laps
        go true z =
            let h = and_true (in_set n key k (set b) g) _ z in
            ⊎_elim
            (λ (y : (b ≤ g) × (g ≤ need b)). absurd
            (omega (arith, w, front g y.0 (sets.high b g low high short h.0) (left_own g z))))
            (λ (y : (need b ≡ e) × (g < before)). omega (
              arith,
              i.fresh (omega (arith, y.0, uncut, i.fits)) g u
                  y.1,
            ))
            (sets.shape b g low high short h.0)
        go false z = omega (arith, i.fewer g u (omega (arith, le, w)))

  -- the step at an own gap
  pub plain_traced : (p : ℕ) (s : State) (x : Count) → AtPlain B d p → Traced (suc p) s x →
      Traced p (step_plain need p s) (run n key k ks (event_plain need set p s.f) x)
  unfolding step_plain put event_plain
  plain_traced p s x at i = go (ltb (need (suc p)) s.f) refl
    where
      other : (g : ℕ) → suc p ≤ g → (own g ≡ d → ⊥) → suc p < g
      other g h o = ⊎_elim (λ (z : g ≡ suc p). absurd (o (ap own z ∙ at.owner)))
          (λ (z : g ≡ suc p → ⊥). omega (arith, h, z))
          (eq_or g (suc p))

      go : (t : Bool) → ltb (need (suc p)) s.f ≡ t →
          Traced p (pick t (put p s) s) (run n key k ks (pick t (st (set (suc p)) 0 ∷ []) []) x)
      go true z =
          let low : d < suc p = omega (arith, at.low) in
          let high : suc p ≤ e = omega (arith, at.high) in
          let uncut : need (suc p) < s.f = ltb-true (need (suc p)) s.f z in
          let short : need (suc p) ≤ e = omega (arith, uncut, i.fits) in
          let rest : (g : ℕ) → suc p ≤ g → g ≤ need (suc p) → (own g ≡ d → ⊥) →
          (is_out n key d ks x.facts g ≡ true) ⊎ (leads n key ks 0 g ≡ true) =
          λ g a b o. inl (i.outs g (other g a o) (omega (arith, b, uncut)) (omega (arith, b, short)) o) in
          let front : (g : ℕ) → suc p ≤ g → g ≤ e → own g ≡ d → suc p ≤ g = λ g a b o. a in
          record {
            above = omega arith;
            fits = omega (arith, high);
            fine = step_fine (suc p) (suc p) 0 (suc p) s x i low high uncut refl rest front;
            c_is = omega (arith, i.c_is);
            outs = λ g a b u o. absurd (omega (arith, a, b));
            fewer = step_fewer (suc p) (suc p) 0 (suc p) s x i low high uncut refl rest front (omega (arith, i.above));
            most = step_most (suc p) (suc p) 0 (suc p) s x i low high uncut refl rest front;
            fresh = λ y. absurd (omega (arith, y, at.high));
            fresh_outs = λ y. absurd (omega (arith, y, at.high));
          }
      go false z =
          record {
            above = omega (arith, i.above);
            fits = i.fits;
            fine = i.fine;
            c_is = i.c_is;
            outs = λ g a b u o. i.outs g (other g a o) b u o;
            fewer = i.fewer;
            most = i.most;
            fresh = i.fresh;
            fresh_outs = i.fresh_outs;
          }

  -- the step over a child
  module _ (p l : ℕ) (s : State) (x : Count) (at : AtChild B d p l) (i : Traced (suc p) s x) where
    kid : KidSays n key d ks T lead l
    kid = kids p l at

    ends : end_of n.points l ≡ p
    ends = at.child.ends

    -- a gap of the child is not the loop's own; one above it that is not the loop's own lies above the gap after it
    in_child : (g : ℕ) → l < g → g ≤ p → own g ≡ d → ⊥
    in_child g a b o =
        omega (arith, (laws.owner l g at.child.is-do a (omega (arith, b, ends))).from, at.child.below, o)

    beyond : (g : ℕ) → p < g → (own g ≡ d → ⊥) → suc p < g
    beyond g h o = ⊎_elim (λ (z : g ≡ suc p). absurd (o (ap own z ∙ at.owner)))
        (λ (z : g ≡ suc p → ⊥). omega (arith, h, z))
        (eq_or g (suc p))

    left_high : (b : ℕ) → l < b → b ≤ p → T.left l b ≤ p
    left_high b u w = omega (arith, kid.high b u (omega (arith, w, ends)), ends)

    -- gaps of the child below the front of its row are out
    child_out : (fs : List Fact) (m : ℕ) → T.left l (suc l) ≡ m → (g f : ℕ) → l < g → g ≤ p → g < first_of m f →
        is_out n key d ks fs g ≡ true
    child_out fs zero z g f a b c = kid.none_upto fs g a (omega (arith, b, ends)) (inl z)
    child_out fs (suc m) z g f a b c = kid.none_upto fs g a (omega (arith, b, ends)) (inr (omega (arith, z, c)))

    first_high : (m : ℕ) → T.left l (suc l) ≡ m → (f : ℕ) → p < f → first_of m f ≤ f
    first_high zero z f h = omega arith
    first_high (suc m) z f h = omega (arith, left_high (suc l) (omega arith) at.short, z, h)

    first_low : (m : ℕ) → T.left l (suc l) ≡ m → (f : ℕ) → p < f → l < first_of m f
    first_low zero z f h = omega (arith, at.short, h)
    first_low (suc m) z f h =
        omega (arith, kid.low (suc l) (omega arith) (omega (arith, at.short, ends)) (omega (arith, z)), z)

    -- where the child's row has a front, it is no longer fresh
    stays : (m : ℕ) → T.left l (suc l) ≡ m → first_of m s.f ≡ suc e → s.f ≡ suc e
    stays zero z h = h
    stays (suc m) z h = absurd (omega (arith, left_high (suc l) (omega arith) at.short, z, h, at.high))

    free_traced : Traced l (free (T.left l) (T.lay l) l s) x
    unfolding free
    free_traced =
        record {
          above = first_low (T.left l (suc l)) refl s.f (omega (arith, i.above));
          fits = omega (arith, first_high (T.left l (suc l)) refl s.f (omega (arith, i.above)), i.fits);
          fine = i.fine;
          c_is = i.c_is;
          outs = λ g a b u o. ⊎_elim
              (λ (z : g ≤ p). child_out x.facts (T.left l (suc l)) refl g s.f a z b)
              (λ (z : p < g). i.outs g (beyond g z o)
              (omega (arith, b, first_high (T.left l (suc l)) refl s.f (omega (arith, i.above)))) u o)
              (le_or g p);
          fewer = λ g a b. i.fewer g a
              (omega (arith, b, first_high (T.left l (suc l)) refl s.f (omega (arith, i.above))));
          most = i.most;
          fresh = λ z. i.fresh (stays (T.left l (suc l)) refl z);
          fresh_outs = λ z. i.fresh_outs (stays (T.left l (suc l)) refl z);
        }

    module _ (b : ℕ) (low : l < b) (high : b ≤ suc p) (uncut : need b < s.f) where
      above_d : d < b
      above_d = omega (arith, at.child.below, low)

      within : b ≤ e
      within = omega (arith, high, at.high)

      reached : need b ≤ e
      reached = omega (arith, uncut, i.fits)

      over : (g : ℕ) → p < g → g ≤ need b → (own g ≡ d → ⊥) → is_out n key d ks x.facts g ≡ true
      over g h a o = i.outs g (beyond g h o) (omega (arith, a, uncut)) (omega (arith, a, reached)) o

      own_over : (g : ℕ) → b ≤ g → own g ≡ d → p < g
      own_over g h o = ⊎_elim (λ (z : g ≤ p). absurd (in_child g (omega (arith, low, h)) z o)) (λ (z : p < g). z)
          (le_or g p)

      inner_traced : b ≤ p → suc l < T.left l b →
          Traced l (inner (T.left l) (T.lay l) b s) (step n key k ks (st (set b) (suc (lead l b))) x)
      unfolding inner
      inner_traced in_p there =
          let hi : b ≤ end_of n.points l = omega (arith, in_p, ends) in
          let loop_is : (known_at ks (lead l b)).loop ≡ l = kid.loop b low hi there in
          let from_is : (known_at ks (lead l b)).from ≤ b = kid.from b low hi there in
          let upto_is : suc (known_at ks (lead l b)).upto ≡ T.left l b = kid.upto b low hi there in
          let end_is : end_of n.points (known_at ks (lead l b)).loop ≡ p = ap (end_of n.points) loop_is ∙ ends in
          let rest : (g : ℕ) → b ≤ g → g ≤ need b → (own g ≡ d → ⊥) →
          (is_out n key d ks x.facts g ≡ true) ⊎ (leads n key ks (suc (lead l b)) g ≡ true) =
          λ g a c o. ⊎_elim
          (λ (z : g ≤ p). inr (and_intro (and_intro
          (lt-ltb (known_at ks (lead l b)).loop g (omega (arith, loop_is, low, a)))
          (le-leb g (end_of n.points (known_at ks (lead l b)).loop) (omega (arith, z, end_is))))
          (le-leb (known_at ks (lead l b)).from g (omega (arith, from_is, a)))))
          (λ (z : p < g). inl (over g z c o))
          (le_or g p) in
          let lh : T.left l b ≤ p = left_high b low in_p in
          let front : (g : ℕ) → b ≤ g → g ≤ e → own g ≡ d → T.left l b ≤ g =
          λ g a c o. omega (arith, own_over g a o, lh) in
          let led : is_led n key d ks (suc (lead l b)) ≡ true = kid.led b low hi there in
          record {
            above = omega (arith, there);
            fits = omega (arith, lh, at.high);
            fine = step_fine (suc p) b (suc (lead l b)) (T.left l b) s x i above_d within uncut led rest front;
            c_is = i.c_is;
            outs = λ g a c u o. out_fact n key d ks record {
              loop = (known_at ks (lead l b)).loop;
              upto = (known_at ks
                  (lead l b)).upto;
            }
                x.facts g (omega (arith, a, loop_is)) (omega (arith, c, lh, end_is)) (omega (arith, c, upto_is));
            fewer = step_fewer (suc p) b (suc (lead l b)) (T.left l b) s x i above_d within uncut led rest front
                (omega (arith, lh, i.above));
            most = step_most (suc p) b (suc (lead l b)) (T.left l b) s x i above_d within uncut led rest front;
            fresh = λ y. absurd (omega (arith, y, lh, at.high));
            fresh_outs = λ y. absurd (omega (arith, y, lh, at.high));
          }

      -- a child entered at its first gap: nothing lies before
      passed_traced : b ≤ p → 0 < T.left l b → T.left l b ≤ suc l → Traced l (inner (T.left l) (T.lay l) b s) x
      unfolding inner
      passed_traced in_p there first =
          let lh : T.left l b ≤ p = left_high b low in_p in
          record {
            above = kid.low b low (omega (arith, in_p, ends)) there;
            fits = omega (arith, lh, at.high);
            fine = i.fine;
            c_is = i.c_is;
            outs = λ g a c u o. absurd (omega (arith, a, c, first));
            fewer = λ g a c. i.fewer g a (omega (arith, c, lh, i.above));
            most = i.most;
            fresh = λ y. absurd (omega (arith, y, lh, at.high));
            fresh_outs = λ y. absurd (omega (arith, y, lh, at.high));
          }

      outer_traced : (b ≤ p → T.left l b ≡ 0) →
          Traced l (outer (T.left l) (T.lay l) l p s) (step n key k ks (st (set b) 0) x)
      unfolding outer
      outer_traced lacks =
          let f : ℕ = first_of (T.left l (suc l)) (suc p) in
          let fh : first_of (T.left l (suc l)) (suc p) ≤ suc p = first_high (T.left l (suc l)) refl (suc p)
          (omega arith) in
          let rest : (g : ℕ) → b ≤ g → g ≤ need b → (own g ≡ d → ⊥) →
          (is_out n key d ks x.facts g ≡ true) ⊎ (leads n key ks 0 g ≡ true) =
          λ g a c o. inl (⊎_elim
          (λ (z : g ≤ p). kid.none_from x.facts b g low a (omega (arith, z, ends)) (lacks (omega (arith, a, z))))
          (λ (z : p < g). over g z c o)
          (le_or g p)) in
          let front : (g : ℕ) → b ≤ g → g ≤ e → own g ≡ d → first_of (T.left l (suc l)) (suc p) ≤ g =
          λ g a c o. omega (arith, own_over g a o, fh) in
          record {
            above = first_low (T.left l (suc l)) refl (suc p) (omega arith);
            fits = omega (arith, fh, at.high);
            fine = step_fine (suc p) b 0 (first_of (T.left l (suc l)) (suc p)) s x i above_d within uncut refl rest
                front;
            c_is = omega (arith, i.c_is);
            outs = λ g a c u o. child_out [] (T.left l (suc l)) refl g (suc p) a (omega (arith, c, fh)) c;
            fewer = step_fewer (suc p) b 0 (first_of (T.left l (suc l)) (suc p)) s x i above_d within uncut refl rest
                front
                (omega (arith, fh, i.above));
            most = step_most (suc p) b 0 (first_of (T.left l (suc l)) (suc p)) s x i above_d within uncut refl rest
                front;
            fresh = λ y. absurd (omega (arith, y, fh, at.high));
            fresh_outs = λ y. absurd (omega (arith, y, fh, at.high));
          }

    child-at : (b : ℕ) → Sought need s.f l (suc p) b →
        Traced l (child_at (T.left l) (T.lay l) l p s b) (run n key k ks (event_at (T.left l) set (lead l) l p b) x)
    unfolding child_at event_at
    child-at b z = go (eqb b 0) refl (leb b p && ltb 0 (T.left l b)) refl (ltb (suc l) (T.left l b)) refl
      where
        go : (t : Bool) → eqb b 0 ≡ t → (u : Bool) → (leb b p && ltb 0 (T.left l b)) ≡ u →
            (r : Bool) → ltb (suc l) (T.left l b) ≡ r →
            Traced l (pick t (free (T.left l) (T.lay l) l s)
            (pick u (inner (T.left l) (T.lay l) b s) (outer (T.left l) (T.lay l) l p s)))
            (run n key k ks (pick t [] (pick u (pick r (st (set b) (suc (lead l b)) ∷ []) []) (st (set b) 0 ∷ []))) x)
        go true y u w r v = free_traced
        go false y true w true v =
            let pos : 0 < b = omega (arith, eqb-false b 0 y) in
            let j = and_true (leb b p) (ltb 0 (T.left l b)) w in
            inner_traced b (z.low pos) z.high (z.uncut pos) (leb-true b p j.0)
            (ltb-true (suc l) (T.left l b) v)
        go false y true w false v =
            let pos : 0 < b = omega (arith, eqb-false b 0 y) in
            let j = and_true (leb b p) (ltb 0 (T.left l b)) w in
            passed_traced b (z.low pos) z.high (z.uncut pos) (leb-true b p j.0)
            (ltb-true 0 (T.left l b) j.1)
            (ltb-false (suc l) (T.left l b) v)
        go false y false w r v =
            let pos : 0 < b = omega (arith, eqb-false b 0 y) in
            outer_traced b (z.low pos) z.high (z.uncut pos) (λ h. ⊎_elim
            (λ (q : leb b p ≡ false). absurd (omega (arith, leb-false b p q, h)))
            (λ (q : ltb 0 (T.left l b) ≡ false). omega (arith, ltb-false 0 (T.left l b) q))
            (and_false (leb b p) (ltb 0 (T.left l b)) w))

    pub child_traced : Traced l (step_child need (T.left l) (T.lay l) l p s)
        (run n key k ks (event_child need (T.left l) set (lead l) l p s.f) x)
    unfolding step_child event_child
    child_traced = child-at (seek need s.f l (suc p)) (seek_is need s.f l (suc p))

  -- one step of the walk
  step_traced : (p : ℕ) (s : State) (x : Count) → d ≤ p → Boundary B d (suc p) → Traced (suc p) s x →
      Boundary B d (next B p) × (next B p ≤ p) ×
      Traced (next B p) (P.step B T need p s) (run n key k ks (event B T need set lead p s.f) x)
  unfolding next P.step event
  step_traced p s x low b i = go (B.is_end p) refl
    where
      go : (t : Bool) → B.is_end p ≡ t → Boundary B d (pick t (B.own p) p) × (pick t (B.own p) p ≤ p) × Traced
          (pick t (B.own p) p)
          (pick t (step_child need (T.left (B.own p)) (T.lay (B.own p)) (B.own p) p s) (step_plain need p s))
          (run n key k ks (pick t (event_child need (T.left (B.own p)) set (lead (B.own p)) (B.own p) p s.f)
          (event_plain need set p s.f)) x)
      go true z =
          let at : AtChild B d p (B.own p) = after_child B laws d is-do p low b z in
          (child_bound B laws d is-do p (B.own p) at, omega (arith, at.short), child_traced p (B.own p) s x at i)
      go false z =
          let at : AtPlain B d p = after_plain B laws d is-do p low b z in
          (plain_bound B laws d is-do p at, omega arith, plain_traced p s x at i)

  walk_traced : (j p : ℕ) (s : State) (x : Count) → p ≤ j → Boundary B d p → Traced p s x →
      Traced d (walk B T need d j p s) (run n key k ks (trace B T need set lead d j p s) x)
  unfolding walk trace
  walk_traced zero p s x h b i =
      let l : d ≤ p = b.low in
      let z : p ≡ d = omega arith in
      rw z at i
  walk_traced (suc j) zero s x h b i =
      let l : d ≤ 0 = b.low in
      let z : 0 ≡ d = omega arith in
      rw z at i
  walk_traced (suc j) (suc p) s x h b i = go (ltb p d) refl (walk_traced j)
    where
      go : (t : Bool) → ltb p d ≡ t →
          ((p : ℕ) (s : State) (x : Count) → p ≤ j → Boundary B d p → Traced p s x →
          Traced d (walk B T need d j p s) (run n key k ks (trace B T need set lead d j p s) x)) →
          Traced d (pick t s (walk B T need d j (next B p) (P.step B T need p s)))
          (run n key k ks (pick t []
          (event B T need set lead p s.f ++ trace B T need set lead d j (next B p) (P.step B T need p s))) x)
      go true z r =
          let l : d ≤ suc p = b.low in
          let g : p < d = ltb-true p d z in
          let y : suc p ≡ d = omega arith in
          rw y at i
      go false z r =
          let m = step_traced p s x (ltb-false p d z) b i in
          rw (run_joined n key k ks (event B T need set lead p s.f)
          (trace B T need set lead d j (next B p) (P.step B T need p s)) x)
          (r (next B p) (P.step B T need p s) (run n key k ks (event B T need set lead p s.f) x)
          (omega (arith, m.1)) m.0 m.2)

  -- a whole lap
  pub traced : (x : Count) → Traced e (start e) x →
      Traced d (sweep B T need d) (run n key k ks (trace B T need set lead d e e (start e)) x)
  unfolding sweep
  traced x i = walk_traced e e (start e) x (omega arith) (stop_bound B laws d is-do) i
