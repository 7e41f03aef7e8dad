-- One induction along a sweep serves every theorem about it: what holds at the start, and is kept by the step at an own
-- gap and by the step over a child, holds at the loop's DO. Beside it, each step by cases.
-- Main statements: `plain_cases`, `child_cases`, `close_cases`, `along`.
use mathlib.Core.Path.{◌≡◌, refl}
use mathlib.Core.Bool.{Bool, true, false, ◌&&◌}
use mathlib.Core.Logic.{◌⊎◌, ⊎_elim}
use Prim.Native.Nat.{ℕ, zero, suc, ◌≤◌, ◌<◌}
use native.Mathlib.Omega.{arith}
use lib.Dec.{ltb, leb}
use borrow.Author.Tests.{ltb-true, ltb-false, leb-true, leb-false, eqb-true, eqb-false}
use Rattle.laws.specs.Choice.{pick}
use Rattle.laws.proofs.Choices.{pick_by}
use Rattle.laws.proofs.Tests.{le_or, and_true, and_false}
use Rattle.plan_method.specs.Sweep.{
  Loops,
  Tables,
  State,
  put,
  close,
  step_plain,
  seek,
  free,
  inner,
  outer,
  child_at,
  step_child,
  next,
  step,
  walk,
  start,
  sweep,
}
use Rattle.plan_method.proofs.World.{Child, Plain, LoopLaws}

-- the step at an own gap: a barrier or none
pub plain_cases : (P : State → Type 0) (need : ℕ → ℕ) (p : ℕ) (s : State) → (need (suc p) < s.f → P (put p s)) →
    (s.f ≤ need (suc p) → P s) → P (step_plain need p s)
unfolding step_plain
plain_cases P need p s yes' no' =
    pick_by P (λ e. yes' (ltb-true (need (suc p)) s.f e)) (λ e. no' (ltb-false (need (suc p)) s.f e))

-- the prefix: a front within the limit, or a barrier right after the DO
pub close_cases : (P : State → Type 0) (d t : ℕ) (s : State) → (s.f ≤ t → P s) → (t < s.f → P (put d s)) →
    P (close d t s)
unfolding close
close_cases P d t s yes' no' = pick_by P (λ e. yes' (leb-true s.f t e)) (λ e. no' (leb-false s.f t e))

-- what `seek` finds is a start that is not cut yet, and there is none above it
pub record Sought (need : ℕ → ℕ) (f L p b : ℕ) : Type 0 where
  pub low : 0 < b → L < b
  pub high : b ≤ p
  pub uncut : 0 < b → need b < f
  pub above : (a : ℕ) → L < a → a ≤ p → b < a → f ≤ need a

pub seek_is : (need : ℕ → ℕ) (f L p : ℕ) → Sought need f L p (seek need f L p)
unfolding seek
seek_is need f L zero =
    record {
      low = λ h. absurd (omega arith);
      high = omega arith;
      uncut = λ h. absurd (omega arith);
      above = λ a h i j. absurd (omega arith);
    }
seek_is need f L (suc p) = go (ltb L (suc p)) (ltb (need (suc p)) f) refl refl (seek need f L p) (seek_is need f L p)
  where
    go : (t u : Bool) → ltb L (suc p) ≡ t → ltb (need (suc p)) f ≡ u → (r : ℕ) → Sought need f L p r →
        Sought need f L (suc p) (pick t (pick u (suc p) r) 0)
    go true true e i r k =
        record {
          low = λ h. ltb-true L (suc p) e;
          high = omega arith;
          uncut = λ h. ltb-true (need (suc p)) f i;
          above = λ a h m j. absurd (omega arith);
        }
    go true false e i r k =
        record {
          low = k.low;
          high = omega (arith, k.high);
          uncut = k.uncut;
          above = λ a h m j. ⊎_elim (λ (z : a ≤ p). k.above a h z j) (λ (z : p < a). (
              let y : a ≡ suc p = omega arith in
              rw y (ltb-false (need (suc p)) f i))) (le_or a p);
        }
    go false u e i r k =
        record {
          low = λ h. absurd (omega arith);
          high = omega arith;
          uncut = λ h. absurd (omega arith);
          above = λ a h m j. absurd (omega (arith, ltb-false L (suc p) e));
        }

-- the step over a child: nothing to cut, the child cuts all, or a barrier after the child
pub record Free (need : ℕ → ℕ) (f L p : ℕ) : Type 0 where
  pub above : (a : ℕ) → L < a → a ≤ suc p → f ≤ need a

pub record Inner (need left : ℕ → ℕ) (f L p b : ℕ) : Type 0 where
  pub low : L < b
  pub high : b ≤ p
  pub uncut : need b < f
  pub there : 0 < left b
  pub above : (a : ℕ) → L < a → a ≤ suc p → b < a → f ≤ need a

pub record Outer (need left : ℕ → ℕ) (f L p b : ℕ) : Type 0 where
  pub low : L < b
  pub high : b ≤ suc p
  pub uncut : need b < f
  pub lacks : b ≤ p → left b ≡ 0
  pub above : (a : ℕ) → L < a → a ≤ suc p → b < a → f ≤ need a

module _ (P : State → Type 0) (need left : ℕ → ℕ) (lay : ℕ → ℕ → Bool) (L p : ℕ) (s : State) where
  child-at : (b : ℕ) → Sought need s.f L (suc p) b → (Free need s.f L p → P (free left lay L s)) →
      ((b : ℕ) → Inner need left s.f L p b → P (inner left lay b s)) →
      ((b : ℕ) → Outer need left s.f L p b → P (outer left lay L p s)) → P (child_at left lay L p s b)
  unfolding child_at
  child-at b k F I O =
      pick_by P (λ e. F (nowhere (eqb-true b 0 e))) (λ e. (
      let y : 0 < b = omega (arith, eqb-false b 0 e) in
      pick_by P (λ i. I b (inside y i)) (λ i. O b (outside y i))))
    where
      nowhere : b ≡ 0 → Free need s.f L p
      nowhere z = record { above = λ a h m. k.above a h m (omega arith) }

      inside : 0 < b → (leb b p && ltb 0 (left b)) ≡ true → Inner need left s.f L p b
      inside y i =
          let j = and_true (leb b p) (ltb 0 (left b)) i in
          record {
            low = k.low y;
            high = leb-true b p j.0;
            uncut = k.uncut y;
            there = ltb-true 0 (left b) j.1;
            above = k.above;
          }

      outside : 0 < b → (leb b p && ltb 0 (left b)) ≡ false → Outer need left s.f L p b
      outside y i =
          let l : b ≤ p → left b ≡ 0 = λ h. ⊎_elim
          (λ (q : leb b p ≡ false). absurd (omega (arith, leb-false b p q)))
          (λ (q : ltb 0 (left b) ≡ false). omega (arith, ltb-false 0 (left b) q))
          (and_false (leb b p) (ltb 0 (left b)) i) in
          record { low = k.low y; high = k.high; uncut = k.uncut y; lacks = l; above = k.above }

  pub child_cases : (Free need s.f L p → P (free left lay L s)) →
      ((b : ℕ) → Inner need left s.f L p b → P (inner left lay b s)) →
      ((b : ℕ) → Outer need left s.f L p b → P (outer left lay L p s)) → P (step_child need left lay L p s)
  unfolding step_child
  child_cases F I O = child-at (seek need s.f L (suc p)) (seek_is need s.f L (suc p)) F I O

-- a step of the walk: what is known where it stands
pub record AtPlain (B : Loops) (d p : ℕ) : Type 0 where
  pub low : d ≤ p
  pub high : p < B.stop d
  pub owner : B.own (suc p) ≡ d
  pub before : (p ≡ d) ⊎ Plain B d p

pub record AtChild (B : Loops) (d p l : ℕ) : Type 0 where
  pub high : p < B.stop d
  pub owner : B.own (suc p) ≡ d
  pub short : l < p
  pub child : Child B d p l

-- p is a boundary of d
pub record Boundary (B : Loops) (d p : ℕ) : Type 0 where
  pub low : d ≤ p
  pub high : p ≤ B.stop d
  pub owner : d < p → B.own p ≡ d

module _ (B : Loops) (laws : LoopLaws B) (d : ℕ) (is-do : B.is_do d ≡ true) where
  -- the ENDDO is a boundary
  pub stop_bound : Boundary B d (B.stop d)
  stop_bound =
      record {
        low = omega (arith, laws.long d is-do);
        high = omega arith;
        owner = λ h. laws.own_stop d is-do;
      }

  -- a boundary above d is right after a child or after a plain point, and the next one is where the step goes
  module _ (p : ℕ) (low : d ≤ p) (b : Boundary B d (suc p)) where
    own : B.own (suc p) ≡ d
    own = b.owner (omega arith)

    pub after_child : B.is_end p ≡ true → AtChild B d p (B.own p)
    after_child h =
        let c : Child B d p (B.own p) = laws.child d p is-do low b.high own h in
        let l : B.own p < p = omega (arith, laws.long (B.own p) c.is-do, c.ends) in
        record { high = b.high; owner = own; short = l; child = c }

    pub after_plain : B.is_end p ≡ false → AtPlain B d p
    after_plain h =
        record { low = low; high = b.high; owner = own; before = laws.plain d p is-do low b.high own h }

  pub child_bound : (p l : ℕ) → AtChild B d p l → Boundary B d l
  child_bound p l at =
      record {
        low = omega (arith, at.child.below);
        high = omega (arith, at.short, at.high);
        owner = λ h. at.child.owner;
      }

  pub plain_bound : (p : ℕ) → AtPlain B d p → Boundary B d p
  plain_bound p at =
      record {
        low = at.low;
        high = omega (arith, at.high);
        owner = λ h. ⊎_elim (λ (z : p ≡ d). absurd (omega arith)) (λ (z : Plain B d p). z.owner) at.before;
      }

module _ (B : Loops) (laws : LoopLaws B) (T : Tables) (need : ℕ → ℕ) (d : ℕ) (is-do : B.is_do d ≡ true)
    (P : ℕ → State → Type 0) (on_plain : (p : ℕ) (s : State) → AtPlain B d p → P (suc p) s → P p (step_plain need p s))
    (on_child : (p l : ℕ) (s : State) → AtChild B d p l → P (suc p) s →
    P l (step_child need (T.left l) (T.lay l) l p s)) where
  -- one step of the walk
  along_step : (p : ℕ) (s : State) → d ≤ p → Boundary B d (suc p) → P (suc p) s →
      Boundary B d (next B p) × (next B p ≤ p) × P (next B p) (step B T need p s)
  unfolding next step
  along_step p s low b i = go (B.is_end p) refl
    where
      go : (t : Bool) → B.is_end p ≡ t → Boundary B d (pick t (B.own p) p) × (pick t (B.own p) p ≤ p) × P
          (pick t (B.own p) p)
          (pick t (step_child need (T.left (B.own p)) (T.lay (B.own p)) (B.own p) p s) (step_plain need p s))
      go true e =
          let at : AtChild B d p (B.own p) = after_child B laws d is-do p low b e in
          (child_bound B laws d is-do p (B.own p) at, omega (arith, at.short), on_child p (B.own p) s at i)
      go false e =
          let at : AtPlain B d p = after_plain B laws d is-do p low b e in
          (plain_bound B laws d is-do p at, omega arith, on_plain p s at i)

  along_walk : (k p : ℕ) (s : State) → p ≤ k → Boundary B d p → P p s → P d (walk B T need d k p s)
  unfolding walk
  along_walk zero p s h b i =
      let l : d ≤ p = b.low in
      let z : p ≡ d = omega arith in
      rw z at i
  along_walk (suc k) zero s h b i =
      let l : d ≤ 0 = b.low in
      let z : 0 ≡ d = omega arith in
      rw z at i
  along_walk (suc k) (suc p) s h b i = go (ltb p d) refl (along_walk k)
    where
      go : (t : Bool) → ltb p d ≡ t →
          ((p : ℕ) (s : State) → p ≤ k → Boundary B d p → P p s → P d (walk B T need d k p s)) →
          P d (pick t s (walk B T need d k (next B p) (step B T need p s)))
      go true e r =
          let l : d ≤ suc p = b.low in
          let g : p < d = ltb-true p d e in
          let z : suc p ≡ d = omega arith in
          rw z at i
      go false e r =
          let n = along_step p s (ltb-false p d e) b i in
          r (next B p) (step B T need p s) (omega (arith, n.1)) n.0 n.2

  pub along : P (B.stop d) (start (B.stop d)) → P d (sweep B T need d)
  unfolding sweep
  along i =
      along_walk (B.stop d) (B.stop d) (start (B.stop d)) (omega arith) (stop_bound B laws d is-do) i
