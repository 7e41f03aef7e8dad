-- The fronts of a sweep alone. What a sweep makes of its front at a boundary depends on that front and on nothing else,
-- and once the front lies in the loop's range the suffix of the lap does not matter: so two laps that find one start
-- uncut end with one front.
-- Main definitions: `moved`, `falls`, `found`, `outcome`. Main statements: `walk_falls`, `falls_alike`, `trace_counts`.
use mathlib.Core.Path.{◌≡◌, refl, sym, ap, ◌∙◌}
use mathlib.Core.Bool.{Bool, true, false, ◌&&◌}
use mathlib.Core.List.{List, [], ◌∷◌, ◌++◌}
use mathlib.Core.Logic.{◌⊎◌, inl, inr, ⊎_elim}
use Prim.Native.Nat.{ℕ, zero, suc, ◌+◌, ◌≤◌, ◌<◌}
use native.Mathlib.Omega.{arith}
use lib.Dec.{eqb, ltb, leb}
use lib.ListN.{length, length-append}
use borrow.Author.Tests.{eqb-false, eq-eqb, ltb-true, ltb-false, lt-ltb, le-ltb, leb-true}
use Rattle.laws.specs.Choice.{pick, when, first_of}
use Rattle.laws.proofs.Choices.{pick_by, first_le}
use Rattle.laws.proofs.Tests.{le_or, and_true}
use Rattle.plan_method.specs.Sweep.{Loops, Tables, State, put, step_plain, seek, free, inner, outer, child_at}
use Rattle.plan_method.specs.Sweep.{step_child, next, step, walk}
use Rattle.plan_method.proofs.World.{LoopLaws}
use Rattle.plan_method.proofs.Walk.{Sought, seek_is, AtChild, Boundary, after_child, after_plain}
use Rattle.plan_method.proofs.Walk.{child_bound, plain_bound}
use Rattle.plan_method.proofs.Counts.{cnt, cnt_yes, cnt_same}
use Rattle.plan_starts.proofs.Seeks.{seek_alike}
use Rattle.argue_claims.specs.Arguments.{Step, st}
use Rattle.argue_key.specs.Laps.{event_plain, event_at, event_child, event, trace}

-- a child that is found uncut at b: its front for b, or a barrier behind it
unfoldable pub found_in : (ℕ → ℕ) → ℕ → ℕ → ℕ → ℕ
found_in left l p b = pick (leb b p && ltb 0 (left b)) (left b) (first_of (left (suc l)) (suc p))

unfoldable pub moved_in : (ℕ → ℕ) → ℕ → ℕ → ℕ → ℕ → ℕ
moved_in left l p f b = pick (eqb b 0) (first_of (left (suc l)) f) (found_in left l p b)

module _ (B : Loops) (T : Tables) where
  -- the front after the step at p, with a start that it finds uncut
  unfoldable pub found : ℕ → ℕ → ℕ
  found p b = pick (B.is_end p) (found_in (T.left (B.own p)) (B.own p) p b) (suc p)

  -- and from a front f
  unfoldable pub moved : (ℕ → ℕ) → ℕ → ℕ → ℕ
  moved need p f =
      let a = moved_in (T.left (B.own p)) (B.own p) p f (seek need f (B.own p) (suc p)) in
      pick (B.is_end p) a (pick (ltb (need (suc p)) f) (suc p) f)

  -- the front at the end of a sweep of d that is at the boundary p with the front f
  unfoldable pub falls : (ℕ → ℕ) → ℕ → ℕ → ℕ → ℕ → ℕ
  falls need d zero p f = f
  falls need d (suc k) zero f = f
  falls need d (suc k) (suc p) f =
      let r = falls need d k (next B p) (moved need p f) in
      pick (ltb p d) f r

  -- the front at the end of a sweep that finds the start a uncut
  unfoldable pub outcome : (ℕ → ℕ) → ℕ → ℕ → ℕ → ℕ → ℕ
  outcome need d zero p a = 0
  outcome need d (suc k) zero a = 0
  outcome need d (suc k) (suc p) a =
      let r = outcome need d k (next B p) a in
      pick (ltb (next B p) a) (falls need d k (next B p) (found p a)) r

  child_front : (left : ℕ → ℕ) (lay : ℕ → ℕ → Bool) (l p : ℕ) (s : State) (b : ℕ) →
      (child_at left lay l p s b).f ≡ moved_in left l p s.f b
  unfolding child_at moved_in found_in free inner outer
  child_front left lay l p s b = go (eqb b 0) (leb b p && ltb 0 (left b))
    where
      go : (t u : Bool) →
          (pick t (free left lay l s) (pick u (inner left lay b s) (outer left lay l p s))).f ≡
          pick t (first_of (left (suc l)) s.f) (pick u (left b) (first_of (left (suc l)) (suc p)))
      go true u = refl
      go false true = refl
      go false false = refl

  step_front : (need : ℕ → ℕ) (p : ℕ) (s : State) → (step B T need p s).f ≡ moved need p s.f
  unfolding step step_child step_plain put moved
  step_front need p s = go (B.is_end p) (ltb (need (suc p)) s.f)
    where
      go : (t u : Bool) →
          (pick t (child_at (T.left (B.own p)) (T.lay (B.own p)) (B.own p) p s (seek need s.f (B.own p) (suc p)))
          (pick u (put p s) s)).f ≡
          pick t (moved_in (T.left (B.own p)) (B.own p) p s.f (seek need s.f (B.own p) (suc p)))
          (pick u (suc p) s.f)
      go true u = child_front (T.left (B.own p)) (T.lay (B.own p)) (B.own p) p s _
      go false true = refl
      go false false = refl

  pub walk_falls : (need : ℕ → ℕ) (d k p : ℕ) (s : State) → (walk B T need d k p s).f ≡ falls need d k p s.f
  unfolding walk falls
  walk_falls need d zero p s = refl
  walk_falls need d (suc k) zero s = refl
  walk_falls need d (suc k) (suc p) s = go (ltb p d) (walk_falls need d k (next B p) (step B T need p s))
    where
      go : (t : Bool) →
          (walk B T need d k (next B p) (step B T need p s)).f ≡ falls need d k (next B p) (step B T need p s).f →
          (pick t s (walk B T need d k (next B p) (step B T need p s))).f ≡
          pick t s.f (falls need d k (next B p) (moved need p s.f))
      go true r = refl
      go false r = r ∙ ap (falls need d k (next B p)) (step_front need p s)

-- more places count no less, and one among them that passes counts one more
cnt_grows : (f : ℕ → Bool) (l n : ℕ) → l ≤ n → cnt f l ≤ cnt f n
unfolding cnt
cnt_grows f l zero h =
    let z : l ≡ 0 = omega arith in
    rw z (omega arith)
cnt_grows f l (suc n) h = ⊎_elim
    (λ (z : l ≤ n). omega (arith, cnt_grows f l n z, rise (f (suc n)) (cnt f n)))
    (λ (z : n < l). (let y : l ≡ suc n = omega arith in rw y (omega arith)))
    (le_or l n)
  where
    rise : (t : Bool) (m : ℕ) → m ≤ when t 1 + m
    rise true m = omega arith
    rise false m = omega arith

cnt_passes : (f : ℕ → Bool) (l g n : ℕ) → l < g → g ≤ n → f g ≡ true → cnt f l < cnt f n
cnt_passes f l zero n u w h = absurd (omega arith)
cnt_passes f l (suc g) n u w h =
    omega (arith, cnt_grows f l g (omega (arith, u)), cnt_yes f g h, cnt_grows f (suc g) n w)

module _ (B : Loops) (laws : LoopLaws B) (T : Tables) (d : ℕ) (is-do : B.is_do d ≡ true)
    (high : (l q : ℕ) → B.is_do l ≡ true → l < q → q ≤ B.stop l → T.left l q ≤ B.stop l) where
  abbrev e : ℕ
  e = B.stop d

  -- the step leads to a boundary, and its front is no further than the one before or the ENDDO
  step_bound : (p : ℕ) → d ≤ p → Boundary B d (suc p) → Boundary B d (next B p) × (next B p ≤ p)
  unfolding next
  step_bound p low b = go (B.is_end p) refl
    where
      go : (t : Bool) → B.is_end p ≡ t → Boundary B d (pick t (B.own p) p) × (pick t (B.own p) p ≤ p)
      go true z =
          let at : AtChild B d p (B.own p) = after_child B laws d is-do p low b z in
          (child_bound B laws d is-do p (B.own p) at, omega (arith, at.short))
      go false z = (plain_bound B laws d is-do p (after_plain B laws d is-do p low b z), omega arith)

  module _ (p l : ℕ) (at : AtChild B d p l) where
    left_in : (q : ℕ) → l < q → q ≤ p → T.left l q ≤ e
    left_in q u w =
        let z : B.stop l ≡ p = at.child.ends in
        omega (arith, high l q at.child.is-do u (omega (arith, w, z)), z, at.high)

    found_high : (b : ℕ) → l < b → found_in (T.left l) l p b ≤ e
    unfolding found_in
    found_high b u = pick_by (λ (x : ℕ). x ≤ e)
        (λ z. left_in b u (leb-true b p (and_true (leb b p) (ltb 0 (T.left l b)) z).0))
        (λ z. first_le (T.left l (suc l)) (suc p) e (left_in (suc l) (omega arith) (omega (arith, at.short)))
        (omega (arith, at.high)))

    moved_high : (m f b : ℕ) → e ≤ m → f ≤ m → (0 < b → l < b) → moved_in (T.left l) l p f b ≤ m
    unfolding moved_in
    moved_high m f b i j low = go (eqb b 0) refl
      where
        go : (t : Bool) → eqb b 0 ≡ t → pick t (first_of (T.left l (suc l)) f) (found_in (T.left l) l p b) ≤ m
        go true z = first_le (T.left l (suc l)) f m
            (omega (arith, left_in (suc l) (omega arith) (omega (arith, at.short)), i)) j
        go false z = omega (arith, found_high b (low (omega (arith, eqb-false b 0 z))), i)

  step_high : (need : ℕ → ℕ) (m p f : ℕ) → e ≤ m → d ≤ p → Boundary B d (suc p) → f ≤ m → moved B T need p f ≤ m
  unfolding moved
  step_high need m p f i low b j = go (B.is_end p) refl
    where
      go : (t : Bool) → B.is_end p ≡ t →
          pick t (moved_in (T.left (B.own p)) (B.own p) p f (seek need f (B.own p) (suc p)))
          (pick (ltb (need (suc p)) f) (suc p) f) ≤ m
      go true z = moved_high p (B.own p) (after_child B laws d is-do p low b z) m f _ i j
          (seek_is need f (B.own p) (suc p)).low
      go false z = by_test (ltb (need (suc p)) f)
        where
          by_test : (u : Bool) → pick u (suc p) f ≤ m
          by_test true = omega (arith, b.high, i)
          by_test false = j

  pub falls_high : (need : ℕ → ℕ) (m k p f : ℕ) → e ≤ m → p ≤ k → Boundary B d p → f ≤ m → falls B T need d k p f ≤ m
  unfolding falls
  falls_high need m zero p f i h b j = j
  falls_high need m (suc k) zero f i h b j = j
  falls_high need m (suc k) (suc p) f i h b j = go (ltb p d) refl (falls_high need m k)
    where
      go : (t : Bool) → ltb p d ≡ t →
          ((p f : ℕ) → e ≤ m → p ≤ k → Boundary B d p → f ≤ m → falls B T need d k p f ≤ m) →
          pick t f (falls B T need d k (next B p) (moved B T need p f)) ≤ m
      go true z r = j
      go false z r =
          let low : d ≤ p = ltb-false p d z in
          let n = step_bound p low b in
          r (next B p) (moved B T need p f) i (omega (arith, n.1, h)) n.0 (step_high need m p f i low b j)

  -- two needs that no front in the range tells apart
  module _ (need reach : ℕ → ℕ) (alike : (a f : ℕ) → f ≤ e → ltb (need a) f ≡ ltb (reach a) f) where
    moved_alike : (p f : ℕ) → f ≤ e → moved B T need p f ≡ moved B T reach p f
    unfolding moved
    moved_alike p f h =
        let z : seek need f (B.own p) (suc p) ≡ seek reach f (B.own p) (suc p) =
        seek_alike reach need f (B.own p) (suc p)
        (λ y i j w. ltb-true (need y) f (alike y f h ∙ lt-ltb (reach y) f w))
        (λ y i j w. ltb-false (need y) f (alike y f h ∙ le-ltb (reach y) f w)) in
        rw (z, alike (suc p) f h) refl

    pub falls_alike : (k p f : ℕ) → p ≤ k → Boundary B d p → f ≤ e → falls B T need d k p f ≡ falls B T reach d k p f
    unfolding falls
    falls_alike zero p f h b j = refl
    falls_alike (suc k) zero f h b j = refl
    falls_alike (suc k) (suc p) f h b j = go (ltb p d) refl (falls_alike k)
      where
        go : (t : Bool) → ltb p d ≡ t →
            ((p f : ℕ) → p ≤ k → Boundary B d p → f ≤ e → falls B T need d k p f ≡ falls B T reach d k p f) →
            pick t f (falls B T need d k (next B p) (moved B T need p f)) ≡
            pick t f (falls B T reach d k (next B p) (moved B T reach p f))
        go true z r = refl
        go false z r =
            let low : d ≤ p = ltb-false p d z in
            let n = step_bound p low b in
            r (next B p) (moved B T need p f) (omega (arith, n.1, h)) n.0
            (step_high need e p f (omega arith) low b j) ∙
            ap (falls B T reach d k (next B p)) (moved_alike p f j)

    module _ (set : ℕ → ℕ) (lead : ℕ → ℕ → ℕ) where
      -- a step of the claim at p, for a start that is found there uncut
      record Event (p f : ℕ) (ss : List Step) : Type 0 where
        one_step : length ss ≤ 1
        at : ℕ
        low : next B p < at
        high_at : at ≤ suc p
        front_is : moved B T need p f ≡ found B T p at
        front_high : found B T p at ≤ e

      abbrev Events : ℕ → ℕ → List Step → Type 0
      Events p f ss = (length ss ≤ 0) ⊎ Event p f ss

      -- the step over a child
      module _ (p f : ℕ) (z : B.is_end p ≡ true) (at : AtChild B d p (B.own p)) where
        child_moved : (b : ℕ) → seek need f (B.own p) (suc p) ≡ b → eqb b 0 ≡ false →
            moved B T need p f ≡ found B T p b
        unfolding moved moved_in found
        child_moved b i y = rw (z, i, y) refl

        child_high : (b : ℕ) → B.own p < b → found B T p b ≤ e
        unfolding found
        child_high b u = rw z (found_high p (B.own p) at b u)

        child_next : next B p ≡ B.own p
        unfolding next
        child_next = rw z refl

        child_event : (b : ℕ) → seek need f (B.own p) (suc p) ≡ b → Sought need f (B.own p) (suc p) b →
            Events p f (event_at (T.left (B.own p)) set (lead (B.own p)) (B.own p) p b)
        unfolding event_at
        child_event b i s =
            go (eqb b 0) refl (leb b p && ltb 0 (T.left (B.own p) b)) (ltb (suc (B.own p)) (T.left (B.own p) b))
          where
            go : (t : Bool) → eqb b 0 ≡ t → (u r : Bool) →
                Events p f
                (pick t [] (pick u (pick r (st (set b) (suc (lead (B.own p) b)) ∷ []) []) (st (set b) 0 ∷ [])))
            go true y u r = inl (omega arith)
            go false y u r =
                let pos : 0 < b = omega (arith, eqb-false b 0 y) in
                inr (record {
                  one_step = short u r;
                  at = b;
                  low = omega (arith, child_next, s.low pos);
                  high_at = s.high;
                  front_is = child_moved b i y;
                  front_high = child_high b (s.low pos);
                })
              where
                short : (u r : Bool) →
                    length (pick u (pick r (st (set b) (suc (lead (B.own p) b)) ∷ []) []) (st (set b) 0 ∷ [])) ≤ 1
                short true true = omega arith
                short true false = omega arith
                short false r = omega arith

      -- the step at an own gap
      module _ (p f : ℕ) (z : B.is_end p ≡ false) (inside : suc p ≤ e) where
        plain_moved : need (suc p) < f → moved B T need p f ≡ found B T p (suc p)
        unfolding moved found
        plain_moved h = rw (z, lt-ltb (need (suc p)) f h) refl

        plain_high : found B T p (suc p) ≤ e
        unfolding found
        plain_high = rw z inside

        plain_next : next B p ≡ p
        unfolding next
        plain_next = rw z refl

        plain_event : Events p f (event_plain need set p f)
        unfolding event_plain
        plain_event = pick_by (λ (ss : List Step). Events p f ss)
            (λ y. inr (record {
              one_step = omega arith;
              at = suc p;
              low = omega (arith, plain_next);
              high_at = omega arith;
              front_is = plain_moved (ltb-true (need (suc p)) f y);
              front_high = plain_high;
            }))
            (λ y. inl (omega arith))

      event_is : (p f : ℕ) → d ≤ p → Boundary B d (suc p) → Events p f (event B T need set lead p f)
      unfolding event event_child
      event_is p f low b = go (B.is_end p) refl
        where
          go : (t : Bool) → B.is_end p ≡ t →
              Events p f (pick t
              (event_at (T.left (B.own p)) set (lead (B.own p)) (B.own p) p (seek need f (B.own p) (suc p)))
              (event_plain need set p f))
          go true z = child_event p f z (after_child B laws d is-do p low b z) (seek need f (B.own p) (suc p)) refl
              (seek_is need f (B.own p) (suc p))
          go false z = plain_event p f z b.high

      -- the starts that lead to the front at which the sweep ends
      abbrev to : ℕ → ℕ → ℕ → ℕ → Bool
      to k p f a = eqb (outcome B T reach d k p a) f

      outcome_below : (k p a : ℕ) → a ≤ next B p →
          outcome B T reach d (suc k) (suc p) a ≡ outcome B T reach d k (next B p) a
      unfolding outcome
      outcome_below k p a h = rw (le-ltb (next B p) a h) refl

      outcome_here : (k p a : ℕ) → next B p < a →
          outcome B T reach d (suc k) (suc p) a ≡ falls B T reach d k (next B p) (found B T p a)
      unfolding outcome
      outcome_here k p a h = rw (lt-ltb (next B p) a h) refl

      -- a sweep has no more steps than such starts
      pub trace_counts : (k p : ℕ) (s : State) → p ≤ k → Boundary B d p →
          length (trace B T need set lead d k p s) ≤ cnt (to k p (falls B T need d k p s.f)) p
      unfolding trace falls
      trace_counts zero p s h b = omega arith
      trace_counts (suc k) zero s h b = omega arith
      trace_counts (suc k) (suc p) s h b = go (ltb p d) refl (trace_counts k (next B p) (step B T need p s))
        where
          go : (t : Bool) → ltb p d ≡ t →
              (next B p ≤ k → Boundary B d (next B p) →
              length (trace B T need set lead d k (next B p) (step B T need p s)) ≤
              cnt (to k (next B p) (falls B T need d k (next B p) (step B T need p s).f)) (next B p)) →
              length (pick t []
              (event B T need set lead p s.f ++ trace B T need set lead d k (next B p) (step B T need p s))) ≤
              cnt (to (suc k) (suc p) (pick t s.f (falls B T need d k (next B p) (moved B T need p s.f)))) (suc p)
          go true z r = omega arith
          go false z r =
              let low : d ≤ p = ltb-false p d z in
              let n = step_bound p low b in
              let near : next B p ≤ k = omega (arith, n.1, h) in
              let ends : falls B T need d k (next B p) (step B T need p s).f ≡ end = ap (falls B T need d k (next B p))
              (step_front B T need p s) in
              let rest : length onward ≤ cnt (to k (next B p) end) (next B p) =
              rw ends at (r near n.0) in
              let both : length (here ++ onward) ≡ length here + length onward = length-append here onward in
              let below : cnt (to (suc k) (suc p) end) (next B p) ≡ cnt (to k (next B p) end) (next B p) =
              cnt_same (to (suc k) (suc p) end) (to k (next B p) end) (next B p)
              (λ g u w. ap (λ (x : ℕ). eqb x end) (outcome_below k p g w)) in
              ⊎_elim
              (λ (v : length here ≤ 0). omega (
                arith,
                both,
                rest,
                below,
                v,
                cnt_grows (to (suc k) (suc p) end) (next B p) (suc p) (omega (arith, n.1)),
              ))
              (λ (v : Event p s.f here). (
              let to_end : outcome B T reach d (suc k) (suc p) v.at ≡ end =
              outcome_here k p v.at v.low ∙
              sym (falls_alike k (next B p) (found B T p v.at) near n.0 v.front_high) ∙
              ap (falls B T need d k (next B p)) (sym v.front_is) in
              omega (
                arith,
                both,
                rest,
                below,
                v.one_step,
                cnt_passes (to (suc k) (suc p) end) (next B p) v.at (suc p) v.low v.high_at
                    (eq-eqb _ end to_end),
              )))
              (event_is p s.f low b)
            where
              here : List Step
              here = event B T need set lead p s.f

              onward : List Step
              onward = trace B T need set lead d k (next B p) (step B T need p s)

              end : ℕ
              end = falls B T need d k (next B p) (moved B T need p s.f)
