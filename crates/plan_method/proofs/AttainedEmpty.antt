-- A loop whose table has no front for its whole range has nothing to cut, in it or in any loop inside: with something
-- to cut, the least value would have a front. Every loop inside d is d or lies in a child of d, as the walk shows.
-- Main statements: `each_in_child`, `empty`.
use mathlib.Core.Path.{◌≡◌, sym, ◌∙◌}
use mathlib.Core.Bool.{true, false}
use mathlib.Core.Logic.{⊎_elim}
use Prim.Native.Nat.{ℕ, suc, ◌≤◌, ◌<◌}
use native.Mathlib.Omega.{arith}
use Rattle.laws.proofs.Tests.{test, never_both, le_or, eq_or}
use Rattle.plan_method.specs.Sweep.{Loops, Lines, Tables, value, least, front, some_of, IsTable}
use Rattle.plan_method.proofs.World.{World, Inside, Plain, LoopLaws, Lawful}
use Rattle.plan_method.proofs.Inside.{self_or_inside, end_no_do}
use Rattle.plan_method.proofs.Claim.{Idle}
use Rattle.plan_method.proofs.Walk.{AtPlain, AtChild, along}
use Rattle.plan_method.proofs.Choices.{Attains, least_at, Fronts}
use Rattle.plan_method.proofs.Rows.{Nothing, some_none, row_cost, row_fronts, row_idle}
use Rattle.plan_method.proofs.AttainedSweep.{Kids}

-- a loop directly inside d that l is or lies inside
pub record InChild (B : Loops) (d l : ℕ) : Type 0 where
  pub loop : ℕ
  pub is-do : B.is_do loop ≡ true
  pub owner : B.own loop ≡ d
  pub above : d < loop
  pub below : loop < B.stop d
  pub inside : Inside B loop l

module _ (B : Loops) (laws : LoopLaws B) (T : Tables) (d : ℕ) (is-do : B.is_do d ≡ true) where
  -- every loop inside d from p on lies in a child
  InChildren : ℕ → Type 0
  InChildren p = (l : ℕ) → Inside B d l → d < l → p ≤ l → InChild B d l

  over_plain : (p : ℕ) → AtPlain B d p → InChildren (suc p) → InChildren p
  unfolding InChildren
  over_plain p at k l i h j =
      ⊎_elim
      (λ (z : suc p ≤ l). k l i h z)
      (λ (z : l < suc p). (
      let y : l ≡ p = omega arith in
      ⊎_elim
      (λ (e : p ≡ d). absurd (omega arith))
      (λ (e : Plain B d p). never_both i.is-do (rw y e.no-do))
      at.before))
      (le_or (suc p) l)

  over_child : (p c : ℕ) → AtChild B d p c → InChildren (suc p) → InChildren c
  unfolding InChildren
  over_child p c at k l i h j =
      ⊎_elim
      (λ (z : suc p ≤ l). k l i h z)
      (λ (z : l < suc p). ⊎_elim
      (λ (y : l ≡ p). absurd (end_no_do B laws d p c at.child (rw y at i.is-do)))
      (λ (y : l ≡ p → ⊥). record {
        loop = c;
        is-do = at.child.is-do;
        owner = at.child.owner;
        above = at.child.below;
        below = omega (arith, at.short, at.high);
        inside = record { is-do = i.is-do; from = j; below = omega (arith, y, at.child.ends) };
      })
      (eq_or l p))
      (le_or (suc p) l)

  pub each_in_child : (l : ℕ) → Inside B d l → d < l → InChild B d l
  unfolding InChildren
  each_in_child l i h = all l i h (omega arith)
    where
      all : InChildren d
      all =
          along B laws T (λ a. a) d is-do (λ p s. InChildren p)
          (λ p s at k. over_plain p at k)
          (λ p c s at k. over_child p c at k)
          (λ m j u v. absurd (omega (arith, j.below)))

module _
    (W : World) (N : Lines) (laws : Lawful W N) (T : Tables) (table : IsTable W.loops N T)
    (d : ℕ) (is-do : W.loops.is_do d ≡ true) (kids : Kids W T d) where
  abbrev e : ℕ
  e = W.loops.stop d

  abbrev cost-of : ℕ → ℕ
  cost-of q = (value W.loops N T d q).c

  long : d < e
  long = laws.of-loops.long d is-do

  -- with something to cut, the least value has a front
  has_front : some_of W.loops N T d ≡ true → 0 < T.left d (suc d)
  has_front h =
      let a : Attains cost-of d e (least cost-of d e) = least_at cost-of d e long in
      row.there a.at a.low a.high (sym (row_cost W.loops laws.of-loops N T table d is-do h ∙ a.is))
    where
      row : Fronts (value W.loops N T d) (T.cost d) e (suc d) (front (T.left d (suc d)) (T.choice d (suc d)))
      row = row_fronts W.loops laws.of-loops N T table d is-do (suc d) (omega arith) long h

  -- a dependence with home d would be something to cut
  self_idle : some_of W.loops N T d ≡ false → Idle W T d
  self_idle h =
      let n : Nothing W.loops N T d = some_none W.loops N T d h in
      record {
        free = (row_idle W.loops laws.of-loops N T table d is-do (suc d) (omega arith) long h).0;
        no_line = λ a b k. never_both (laws.of_lines.has_line d a b is-do k) n.no_home;
        no_back = λ a t k. never_both (laws.of_lines.has_back d a t is-do k) n.no_home;
      }

  child_idle : some_of W.loops N T d ≡ false → (l : ℕ) → Inside W.loops d l → d < l → Idle W T l
  child_idle h l i z =
      let c : InChild W.loops d l = each_in_child W.loops laws.of-loops T d is-do l i z in
      let n : T.left c.loop (suc c.loop) ≡ 0 =
      (some_none W.loops N T d h).no_child c.loop c.is-do c.owner c.above c.below in
      (kids c.loop c.is-do c.owner c.above c.below).empty n l c.inside

  pub empty : T.left d (suc d) ≡ 0 → (l : ℕ) → Inside W.loops d l → Idle W T l
  empty h l i =
      ⊎_elim
      (λ (z : some_of W.loops N T d ≡ true). absurd (omega (arith, has_front z)))
      (λ (z : some_of W.loops N T d ≡ false). (
      self_or_inside W.loops d l (Idle W T) i (self_idle z) (child_idle z l i)))
      (test (some_of W.loops N T d))
