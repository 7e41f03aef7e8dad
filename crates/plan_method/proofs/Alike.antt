-- Two nests that agree on d's range, with tables that agree on the ranges of d's children, give the same values at d.
-- Only the first need be lawful, so the second may be made of a program's lists.
-- Main definitions: `Same`, `Alike`. Main statements: `sweep_alike`, `value_alike`.
use mathlib.Core.Path.{◌≡◌, refl, sym, ◌∙◌, ap}
use mathlib.Core.Bool.{Bool, true, false, ◌&&◌, ◌||◌}
use Prim.Native.Nat.{ℕ, zero, suc, ◌≤◌, ◌<◌}
use native.Mathlib.Omega.{arith}
use lib.Dec.{eqb, ltb, leb}
use borrow.Author.Tests.{ltb-true, ltb-false, leb-true, eqb-false}
use Rattle.laws.specs.Choice.{pick}
use Rattle.laws.proofs.Choices.{pick_same}
use Rattle.laws.proofs.Tests.{and_true}
use Rattle.plan_method.specs.Sweep.{Loops, Lines, Tables, State, need_of, put, step_plain, seek, free, inner, outer}
use Rattle.plan_method.specs.Sweep.{child_at, step_child, next, step, walk, start, sweep, close, value}
use Rattle.plan_method.proofs.World.{Child, LoopLaws}
use Rattle.plan_method.proofs.Walk.{plain_cases, close_cases, seek_is, AtPlain, AtChild, Boundary, stop_bound}
use Rattle.plan_method.proofs.Walk.{after_child, after_plain, child_bound, plain_bound}

pub record Same (s t : State) : Type 0 where
  pub c_is : s.c ≡ t.c
  pub f_is : s.f ≡ t.f
  pub w_is : (g : ℕ) → s.w g ≡ t.w g

put_same : (p : ℕ) (s t : State) → Same s t → Same (put p s) (put p t)
unfolding put
put_same p s t e =
    record {
      c_is = rw (e.c_is, put);
      f_is = refl;
      w_is = λ g. ap (λ (b : Bool). eqb g (suc p) || b) (e.w_is g);
    }

plain_same : (need need' : ℕ → ℕ) (p : ℕ) (s t : State) → need (suc p) ≡ need' (suc p) → Same s t →
    Same (step_plain need p s) (step_plain need' p t)
plain_same need need' p s t n e =
    plain_cases (λ u. Same u (step_plain need' p t)) need p s
    (λ i. plain_cases (Same (put p s)) need' p t (λ j. put_same p s t e) (λ j. absurd (omega (arith, e.f_is))))
    (λ i. plain_cases (Same s) need' p t (λ j. absurd (omega (arith, e.f_is))) (λ j. e))

close_same : (d u v : ℕ) (s t : State) → u ≡ v → Same s t → Same (close d u s) (close d v t)
close_same d u v s t h e =
    close_cases (λ r. Same r (close d v t)) d u s
    (λ i. close_cases (Same s) d v t (λ j. e) (λ j. absurd (omega (arith, e.f_is))))
    (λ i. close_cases (Same (put d s)) d v t (λ j. absurd (omega (arith, e.f_is))) (λ j. put_same d s t e))

seek_same : (need need' : ℕ → ℕ) (f L p : ℕ) → ((a : ℕ) → L < a → a ≤ p → need a ≡ need' a) →
    seek need f L p ≡ seek need' f L p
unfolding seek
seek_same need need' f L zero n = refl
seek_same need need' f L (suc p) n =
    pick_same ◌≡◌ refl
    (here (seek_same need need' f L p (λ a i j. n a i (omega arith)))) (λ _. refl)
  where
    here : seek need f L p ≡ seek need' f L p → ltb L (suc p) ≡ true →
        pick (ltb (need (suc p)) f) (suc p) (seek need f L p) ≡ pick (ltb (need' (suc p)) f) (suc p) (seek need' f L p)
    here r h = rw (n (suc p) (ltb-true L (suc p) h) (omega arith), r)

-- the step over a child whose row agrees on the child's range
module _
    (left left' : ℕ → ℕ) (lay lay' : ℕ → ℕ → Bool) (L p : ℕ) (short : L < p)
    (same_left : (q : ℕ) → L < q → q ≤ p → left q ≡ left' q)
    (same_lay : (q g : ℕ) → L < q → q ≤ p → lay q g ≡ lay' q g) (s t : State) (e : Same s t) where
  free_same : Same (free left lay L s) (free left' lay' L t)
  unfolding free
  free_same =
      record {
        c_is = e.c_is;
        f_is = rw (same_left (suc L) (omega arith) short, e.f_is);
        w_is = λ g. rw (same_lay (suc L) g (omega arith) short, e.w_is g);
      }

  inner_same : (b : ℕ) → L < b → b ≤ p → Same (inner left lay b s) (inner left' lay' b t)
  unfolding inner
  inner_same b i j = record { c_is = e.c_is; f_is = same_left b i j; w_is = λ g. rw (same_lay b g i j, e.w_is g) }

  outer_same : Same (outer left lay L p s) (outer left' lay' L p t)
  unfolding outer
  outer_same =
      record {
        c_is = ap suc e.c_is;
        f_is = rw (same_left (suc L) (omega arith) short);
        w_is = λ g. rw (same_lay (suc L) g (omega arith) short, e.w_is g);
      }

  child_at_same : (b : ℕ) → (0 < b → L < b) → Same (child_at left lay L p s b) (child_at left' lay' L p t b)
  unfolding child_at
  child_at_same b h =
      pick_same Same refl (λ _. free_same)
      (λ (z : eqb b 0 ≡ false). more (h (omega (arith, eqb-false b 0 z))))
    where
      tests : L < b → (v : Bool) → leb b p ≡ v → (v && ltb 0 (left b)) ≡ (v && ltb 0 (left' b))
      tests i true y = rw (same_left b i (leb-true b p y))
      tests i false y = refl

      more : L < b →
          Same (pick (leb b p && ltb 0 (left b)) (inner left lay b s) (outer left lay L p s))
          (pick (leb b p && ltb 0 (left' b)) (inner left' lay' b t) (outer left' lay' L p t))
      more i =
          pick_same Same (tests i (leb b p) refl)
          (λ y. inner_same b i (leb-true b p (and_true (leb b p) (ltb 0 (left b)) y).0)) (λ _. outer_same)

  child_same : (need need' : ℕ → ℕ) → ((a : ℕ) → L < a → a ≤ suc p → need a ≡ need' a) →
      Same (step_child need left lay L p s) (step_child need' left' lay' L p t)
  unfolding step_child
  child_same need need' n =
      let z : seek need' t.f L (suc p) ≡ seek need s.f L (suc p) =
      rw e.f_is (sym (seek_same need need' t.f L (suc p) n)) in
      rw z (child_at_same (seek need s.f L (suc p)) (seek_is need s.f L (suc p)).low)

-- two nests that agree on d's range
pub record Alike (B B' : Loops) (N N' : Lines) (T T' : Tables) (d : ℕ) : Type 0 where
  pub stop_is : B.stop d ≡ B'.stop d
  pub do_is : (l : ℕ) → d < l → l < B.stop d → B.is_do l ≡ B'.is_do l
  pub end_is : (p : ℕ) → d ≤ p → p < B.stop d → B.is_end p ≡ B'.is_end p
  pub own_is : (p : ℕ) → d < p → p < B.stop d → B.own p ≡ B'.own p
  pub has_is : N.has d ≡ N'.has d
  pub reach_is : (a : ℕ) → d < a → a ≤ B.stop d → N.reach d a ≡ N'.reach d a
  pub limit_is : (q : ℕ) → d < q → q ≤ B.stop d → N.limit d q ≡ N'.limit d q
  pub left_is : (l q : ℕ) → Child B d (B.stop l) l → l < B.stop d → l < q → q ≤ B.stop l →
      T.left l q ≡ T'.left l q
  pub lay_is : (l q g : ℕ) → Child B d (B.stop l) l → l < B.stop d → l < q → q ≤ B.stop l →
      T.lay l q g ≡ T'.lay l q g

module _
    (B B' : Loops) (laws : LoopLaws B) (N N' : Lines) (T T' : Tables) (d : ℕ) (is-do : B.is_do d ≡ true)
    (alike : Alike B B' N N' T T' d) where
  -- sweeps with the same needs
  module _ (need need' : ℕ → ℕ) (same_need : (a : ℕ) → d < a → a ≤ B.stop d → need a ≡ need' a) where
    -- one step of both walks
    record Stepped (p : ℕ) (s t : State) : Type 0 where
      pub bound : Boundary B d (next B p)
      pub next_is : next B p ≡ next B' p
      pub same : Same (step B T need p s) (step B' T' need' p t)

    child_alike : (p l : ℕ) (s t : State) → AtChild B d p l → Same s t →
        Same (step_child need (T.left l) (T.lay l) l p s) (step_child need' (T'.left l) (T'.lay l) l p t)
    child_alike p l s t at e =
        child_same (T.left l) (T'.left l) (T.lay l) (T'.lay l) l p at.short
        (λ q i j. alike.left_is l q c below i (omega (arith, at.child.ends)))
        (λ q g i j. alike.lay_is l q g c below i (omega (arith, at.child.ends))) s t e need need'
        (λ a i j. same_need a (omega (arith, at.child.below)) (omega (arith, at.high)))
      where
        c : Child B d (B.stop l) l
        c = record { is-do = at.child.is-do; below = at.child.below; ends = refl; owner = at.child.owner }

        below : l < B.stop d
        below = omega (arith, at.short, at.high)

    step_alike : (p : ℕ) (s t : State) → d ≤ p → Boundary B d (suc p) → Same s t → Stepped p s t
    unfolding next step
    step_alike p s t low b e = go (B.is_end p) refl (alike.end_is p low b.high)
      where
        go : (u : Bool) → B.is_end p ≡ u → B.is_end p ≡ B'.is_end p → Stepped p s t
        go true y k =
            let z : B'.is_end p ≡ true = sym k ∙ y in
            let at : AtChild B d p (B.own p) = after_child B laws d is-do p low b y in
            let o : B.own p ≡ B'.own p = alike.own_is p (omega (arith, at.child.below, at.short)) at.high in
            record {
              bound = rw y (child_bound B laws d is-do p (B.own p) at);
              next_is = rw (y, z) o;
              same = rw (y, z, ← o) (child_alike p (B.own p) s t at e);
            }
        go false y k =
            let z : B'.is_end p ≡ false = sym k ∙ y in
            let at : AtPlain B d p = after_plain B laws d is-do p low b y in
            record {
              bound = rw y (plain_bound B laws d is-do p at);
              next_is = rw (y, z);
              same = rw (y, z) (plain_same need need' p s t (same_need (suc p) (omega arith) at.high) e);
            }

    walk_alike : (k p : ℕ) (s t : State) → Boundary B d p → Same s t →
        Same (walk B T need d k p s) (walk B' T' need' d k p t)
    unfolding walk
    walk_alike zero p s t b e = e
    walk_alike (suc k) zero s t b e = e
    walk_alike (suc k) (suc p) s t b e =
        pick_same Same refl (λ _. e)
        (λ y. on (step_alike p s t (ltb-false p d y) b e) (walk_alike k))
      where
        on : Stepped p s t →
            ((p : ℕ) (s t : State) → Boundary B d p → Same s t →
            Same (walk B T need d k p s) (walk B' T' need' d k p t)) →
            Same (walk B T need d k (next B p) (step B T need p s))
            (walk B' T' need' d k (next B' p) (step B' T' need' p t))
        on m r = rw (← m.next_is) (r (next B p) (step B T need p s) (step B' T' need' p t) m.bound m.same)

    pub sweep_alike : Same (sweep B T need d) (sweep B' T' need' d)
    unfolding sweep
    sweep_alike =
        let e = B.stop d in
        rw (← alike.stop_is)
        (walk_alike e e (start e) (start e) (stop_bound B laws d is-do)
        record { c_is = refl; f_is = refl; w_is = λ g. refl })

  pub value_alike : (q : ℕ) → d < q → q ≤ B.stop d → Same (value B N T d q) (value B' N' T' d q)
  unfolding value need_of
  value_alike q a b =
      close_same d (N.limit d q) (N'.limit d q) s t (alike.limit_is q a b)
      (sweep_alike need need' (λ a i j. rw (alike.reach_is a i j, alike.stop_is)))
    where
      need : ℕ → ℕ
      need = need_of (N.reach d) q (B.stop d)

      need' : ℕ → ℕ
      need' = need_of (N'.reach d) q (B'.stop d)

      s : State
      s = sweep B T need d

      t : State
      t = sweep B' T' need' d
