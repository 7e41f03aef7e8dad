-- Two nests that agree on d's range, with tables that agree on the ranges of d's children, give the same steps of a
-- sweep: its fronts are the same, and they alone decide about steps.
-- Main statement: `trace_alike`.
use mathlib.Core.Path.{◌≡◌, refl, sym, ◌∙◌}
use mathlib.Core.Bool.{Bool, true, false, ◌&&◌}
use mathlib.Core.List.{[], ◌∷◌, ◌++◌}
use Prim.Native.Nat.{ℕ, zero, suc, ◌≤◌, ◌<◌}
use native.Mathlib.Omega.{arith}
use lib.Dec.{eqb, ltb, leb}
use borrow.Author.Tests.{ltb-false, leb-true, eqb-false}
use Rattle.laws.specs.Choice.{pick}
use Rattle.laws.proofs.Choices.{pick_same}
use Rattle.laws.proofs.Tests.{and_true}
use Rattle.plan_method.specs.Sweep.{Loops, Lines, Tables, State, put, step_plain, seek, free, inner, outer}
use Rattle.plan_method.specs.Sweep.{child_at, step_child, next, step, start}
use Rattle.plan_method.proofs.World.{Child, LoopLaws}
use Rattle.plan_method.proofs.Walk.{seek_is, AtPlain, AtChild, Boundary, stop_bound, after_child, after_plain}
use Rattle.plan_method.proofs.Walk.{child_bound, plain_bound}
use Rattle.plan_method.proofs.Alike.{Alike}
use Rattle.plan_starts.proofs.Seeks.{seek_alike}
use Rattle.argue_claims.specs.Arguments as claims
use Rattle.argue_key.specs.Laps.{event_plain, event_at, event_child, event, trace}

-- states with the same front
abbrev Level : State → State → Type 0
Level s t = s.f ≡ t.f

plain_level : (need need' : ℕ → ℕ) (p : ℕ) (s t : State) → need (suc p) ≡ need' (suc p) → Level s t →
    Level (step_plain need p s) (step_plain need' p t)
unfolding step_plain put
plain_level need need' p s t n e =
    let z : ltb (need (suc p)) s.f ≡ ltb (need' (suc p)) t.f = rw (n, e) in
    pick_same Level z (λ _. refl) (λ _. e)

-- a child whose row agrees on its range
module _ (left left' : ℕ → ℕ) (L p : ℕ) (short : L < p)
    (same : (q : ℕ) → L < q → q ≤ p → left q ≡ left' q) where
  tests : (b : ℕ) → L < b → (v : Bool) → leb b p ≡ v → (v && ltb 0 (left b)) ≡ (v && ltb 0 (left' b))
  tests b i true y = rw (same b i (leb-true b p y))
  tests b i false y = refl

  child_level : (lay lay' : ℕ → ℕ → Bool) (s t : State) (b : ℕ) → (0 < b → L < b) → Level s t →
      Level (child_at left lay L p s b) (child_at left' lay' L p t b)
  unfolding child_at free inner outer
  child_level lay lay' s t b h e =
      pick_same Level refl (λ _. rw (first, e))
      (λ (z : eqb b 0 ≡ false). more (h (omega (arith, eqb-false b 0 z))))
    where
      first : left (suc L) ≡ left' (suc L)
      first = same (suc L) (omega arith) short

      more : L < b →
          Level (pick (leb b p && ltb 0 (left b)) (inner left lay b s) (outer left lay L p s))
          (pick (leb b p && ltb 0 (left' b)) (inner left' lay' b t) (outer left' lay' L p t))
      more i =
          pick_same Level (tests b i (leb b p) refl)
          (λ y. same b i (leb-true b p (and_true (leb b p) (ltb 0 (left b)) y).0)) (λ _. rw first)

  event_level : (set set' lead lead' : ℕ → ℕ) (b : ℕ) → (0 < b → L < b) → (0 < b → set b ≡ set' b) →
      (L < b → b ≤ p → lead b ≡ lead' b) → event_at left set lead L p b ≡ event_at left' set' lead' L p b
  unfolding event_at
  event_level set set' lead lead' b h x y =
      pick_same ◌≡◌ refl (λ _. refl)
      (λ (z : eqb b 0 ≡ false). more (omega (arith, eqb-false b 0 z)))
    where
      more : 0 < b →
          pick (leb b p && ltb 0 (left b))
          (pick (ltb (suc L) (left b)) (claims.st (set b) (suc (lead b)) ∷ []) [])
          (claims.st (set b) 0 ∷ []) ≡
          pick (leb b p && ltb 0 (left' b))
          (pick (ltb (suc L) (left' b)) (claims.st (set' b) (suc (lead' b)) ∷ []) [])
          (claims.st (set' b) 0 ∷ [])
      more i =
          pick_same ◌≡◌ (tests b (h i) (leb b p) refl)
          (λ u.
          let v = leb-true b p (and_true (leb b p) (ltb 0 (left b)) u).0 in
          rw (same b (h i) v, x i, y (h i) v))
          (λ _. rw (x i))

module _
    (B B' : Loops) (laws : LoopLaws B) (N N' : Lines) (T T' : Tables) (d : ℕ) (is-do : B.is_do d ≡ true)
    (alike : Alike B B' N N' T T' d)
    (need need' : ℕ → ℕ) (same_need : (a : ℕ) → d < a → a ≤ B.stop d → need a ≡ need' a)
    (set set' : ℕ → ℕ) (same_set : (a : ℕ) → d < a → a ≤ B.stop d → set a ≡ set' a)
    (lead lead' : ℕ → ℕ → ℕ)
    (same_lead : (l b : ℕ) → Child B d (B.stop l) l → l < B.stop d → l < b → b ≤ B.stop l → lead l b ≡ lead' l b)
  where
    -- one step of both
    record Stepped (p : ℕ) (s t : State) : Type 0 where
      pub bound : Boundary B d (next B p)
      pub next_is : next B p ≡ next B' p
      pub level : Level (step B T need p s) (step B' T' need' p t)
      pub events : event B T need set lead p s.f ≡ event B' T' need' set' lead' p t.f

    module _ (p l : ℕ) (at : AtChild B d p l) where
      kid : Child B d (B.stop l) l
      kid = record { is-do = at.child.is-do; below = at.child.below; ends = refl; owner = at.child.owner }

      below : l < B.stop d
      below = omega (arith, at.short, at.high)

      same_left : (q : ℕ) → l < q → q ≤ p → T.left l q ≡ T'.left l q
      same_left q i j = alike.left_is l q kid below i (omega (arith, at.child.ends))

      found : (f : ℕ) → seek need' f l (suc p) ≡ seek need f l (suc p)
      found f =
          seek_alike need need' f l (suc p)
          (λ y i j h. omega (arith, same_need y (omega (arith, at.child.below)) (omega (arith, at.high))))
          (λ y i j h. omega (arith, same_need y (omega (arith, at.child.below)) (omega (arith, at.high))))

      over_level : (s t : State) → Level s t →
          Level (step_child need (T.left l) (T.lay l) l p s) (step_child need' (T'.left l) (T'.lay l) l p t)
      unfolding step_child
      over_level s t e =
          let z : seek need' t.f l (suc p) ≡ seek need s.f l (suc p) = rw (← e) (found s.f) in
          rw z
          (child_level (T.left l) (T'.left l) l p at.short same_left (T.lay l) (T'.lay l) s t
          (seek need s.f l (suc p)) (seek_is need s.f l (suc p)).low e)

      over_event : (f : ℕ) →
          event_child need (T.left l) set (lead l) l p f ≡ event_child need' (T'.left l) set' (lead' l) l p f
      unfolding event_child
      over_event f =
          let k = seek_is need f l (suc p) in
          rw (found f)
          (event_level (T.left l) (T'.left l) l p at.short same_left set set' (lead l) (lead' l)
          (seek need f l (suc p)) k.low
          (λ i. same_set (seek need f l (suc p)) (omega (arith, at.child.below, k.low i))
          (omega (arith, at.high, k.high)))
          (λ i j. same_lead l (seek need f l (suc p)) kid below i (omega (arith, at.child.ends))))

    step_alike : (p : ℕ) (s t : State) → d ≤ p → Boundary B d (suc p) → Level s t → Stepped p s t
    unfolding next step event event_plain
    step_alike p s t low b e = go (B.is_end p) refl (alike.end_is p low b.high)
      where
        go : (u : Bool) → B.is_end p ≡ u → B.is_end p ≡ B'.is_end p → Stepped p s t
        go true y k =
            let z : B'.is_end p ≡ true = sym k ∙ y in
            let at : AtChild B d p (B.own p) = after_child B laws d is-do p low b y in
            let o : B.own p ≡ B'.own p = alike.own_is p (omega (arith, at.child.below, at.short)) at.high in
            record {
              bound = rw y (child_bound B laws d is-do p (B.own p) at);
              next_is = rw (y, z) o;
              level = rw (y, z, ← o) (over_level p (B.own p) at s t e);
              events = rw (y, z, ← o, ← e) (over_event p (B.own p) at s.f);
            }
        go false y k =
            let z : B'.is_end p ≡ false = sym k ∙ y in
            let at : AtPlain B d p = after_plain B laws d is-do p low b y in
            let n = same_need (suc p) (omega arith) at.high in
            record {
              bound = rw y (plain_bound B laws d is-do p at);
              next_is = rw (y, z);
              level = rw (y, z) (plain_level need need' p s t n e);
              events = rw (y, z, e, n, same_set (suc p) (omega arith) at.high);
            }

    from_alike : (k p : ℕ) (s t : State) → Boundary B d p → Level s t →
        trace B T need set lead d k p s ≡ trace B' T' need' set' lead' d k p t
    unfolding trace
    from_alike zero p s t b e = refl
    from_alike (suc k) zero s t b e = refl
    from_alike (suc k) (suc p) s t b e =
        pick_same ◌≡◌ refl (λ _. refl)
        (λ y. on (step_alike p s t (ltb-false p d y) b e) (from_alike k))
      where
        on : Stepped p s t →
            ((p : ℕ) (s t : State) → Boundary B d p → Level s t →
            trace B T need set lead d k p s ≡ trace B' T' need' set' lead' d k p t) →
            event B T need set lead p s.f ++ trace B T need set lead d k (next B p) (step B T need p s) ≡
            event B' T' need' set' lead' p t.f ++
            trace B' T' need' set' lead' d k (next B' p) (step B' T' need' p t)
        on m r =
            rw (← m.next_is, m.events, r (next B p) (step B T need p s) (step B' T' need' p t) m.bound m.level)

    pub trace_alike :
        trace B T need set lead d (B.stop d) (B.stop d) (start (B.stop d)) ≡
        trace B' T' need' set' lead' d (B.stop d) (B.stop d) (start (B.stop d))
    trace_alike =
        from_alike (B.stop d) (B.stop d) (start (B.stop d)) (start (B.stop d)) (stop_bound B laws d is-do) refl
