-- What a table's row of loop d says: with something to cut, the least value and the best fronts; with nothing, zeros.
-- Main statements: `some_home`, `some_none`, `value_front`, `row_cost`, `row_fronts`, `row_lay`, `row_idle`,
-- `row_busy`.
use mathlib.Core.Path.{◌≡◌, ◌∙◌}
use mathlib.Core.Bool.{Bool, true, false, ◌&&◌}
use mathlib.Core.Logic.{◌⊎◌, inl, inr, ⊎_elim}
use Prim.Native.Nat.{ℕ, zero, suc, ◌≤◌, ◌<◌}
use native.Mathlib.Omega.{arith}
use lib.Dec.{eqb, ltb}
use borrow.Author.Tests.{ltb-true, eqb-true, eq-eqb, lt-ltb, le-ltb}
use Rattle.laws.specs.Choice.{first_of}
use Rattle.laws.proofs.Tests.{never, never_both, eq_or, eq_by, true_by, and_true, and_intro, or-true, or_false}
use Rattle.plan_method.specs.Sweep.{Loops, Lines, Tables, State, put, free, inner, outer}
use Rattle.plan_method.specs.Sweep.{sweep, need_of, value, least, front, best, child_some, some_of}
use Rattle.plan_method.specs.Sweep.{cost_of, front_of, left_of, choice_of, lay_of, IsTable}
use Rattle.plan_method.proofs.World.{LoopLaws}
use Rattle.plan_method.proofs.Walk.{plain_cases, child_cases, close_cases, along}
use Rattle.plan_method.proofs.Choices.{Fronts, best_is}

-- loop l lies directly inside d and holds barriers, as a test
abbrev pub holds_at : Loops → Tables → ℕ → ℕ → Bool
holds_at B T d l = ltb d l && (B.is_do l && (eqb (B.own l) d && ltb 0 (T.left l (suc l))))

-- a loop directly inside d that holds barriers
pub record Holder (B : Loops) (T : Tables) (d : ℕ) : Type 0 where
  pub loop : ℕ
  pub is-do : B.is_do loop ≡ true
  pub above : d < loop
  pub below : loop < B.stop d
  pub owner : B.own loop ≡ d
  pub there : 0 < T.left loop (suc loop)

child-some : (B : Loops) (T : Tables) (d n : ℕ) → n ≤ B.stop d → child_some B T d n ≡ true → Holder B T d
unfolding child_some
child-some B T d zero b h = never h
child-some B T d (suc l) b h =
    ⊎_elim here (child-some B T d l (omega arith)) (or-true (holds_at B T d l) (child_some B T d l) h)
  where
    here : holds_at B T d l ≡ true → Holder B T d
    here z =
        let owned = eqb (B.own l) d && ltb 0 (T.left l (suc l)) in
        let a = and_true (ltb d l) (B.is_do l && owned) z in
        let c = and_true (B.is_do l) owned a.1 in
        let e = and_true (eqb (B.own l) d) (ltb 0 (T.left l (suc l))) c.1 in
        record {
          loop = l;
          is-do = c.0;
          above = ltb-true d l a.0;
          below = b;
          owner = eqb-true (B.own l) d e.0;
          there = ltb-true 0 (T.left l (suc l)) e.1;
        }

child_none : (B : Loops) (T : Tables) (d n l : ℕ) → child_some B T d n ≡ false → l < n → holds_at B T d l ≡ true → ⊥
unfolding child_some
child_none B T d zero l h a k = omega arith
child_none B T d (suc n) l h a k =
    go (eq_or l n) (or_false (holds_at B T d n) (child_some B T d n) h) (child_none B T d n l)
  where
    go : (l ≡ n) ⊎ (l ≡ n → ⊥) → (holds_at B T d n ≡ false) × (child_some B T d n ≡ false) →
        (child_some B T d n ≡ false → l < n → holds_at B T d l ≡ true → ⊥) → ⊥
    go (inl y) z r = never_both (rw y at k) z.0
    go (inr y) z r = r z.1 (omega (arith, y)) k

-- something to cut: a dependence with home d, or a child that holds barriers; and nothing: neither
pub some_home : (B : Loops) (N : Lines) (T : Tables) (d : ℕ) → some_of B N T d ≡ true →
    (N.has d ≡ true) ⊎ Holder B T d
unfolding some_of
some_home B N T d h =
    ⊎_elim
    (λ (z : N.has d ≡ true). inl z)
    (λ (z : child_some B T d (B.stop d) ≡ true). inr (child-some B T d (B.stop d) (omega arith) z))
    (or-true (N.has d) (child_some B T d (B.stop d)) h)

pub record Nothing (B : Loops) (N : Lines) (T : Tables) (d : ℕ) : Type 0 where
  pub no_home : N.has d ≡ false
  pub no_child : (l : ℕ) → B.is_do l ≡ true → B.own l ≡ d → d < l → l < B.stop d → T.left l (suc l) ≡ 0

pub some_none : (B : Loops) (N : Lines) (T : Tables) (d : ℕ) → some_of B N T d ≡ false → Nothing B N T d
unfolding some_of
some_none B N T d h = record { no_home = k.0; no_child = no_child }
  where
    k : (N.has d ≡ false) × (child_some B T d (B.stop d) ≡ false)
    k = or_false (N.has d) (child_some B T d (B.stop d)) h

    no_child : (l : ℕ) → B.is_do l ≡ true → B.own l ≡ d → d < l → l < B.stop d → T.left l (suc l) ≡ 0
    no_child l is-do own low high = eq_by (λ z. (
        let t : ltb 0 (T.left l (suc l)) ≡ true = lt-ltb 0 (T.left l (suc l)) (omega (arith, z)) in
        let o : eqb (B.own l) d ≡ true = eq-eqb (B.own l) d own in
        child_none B T d (B.stop d) l k.1 high (and_intro (lt-ltb d l low) (and_intro is-do (and_intro o t)))))

-- a sweep's front is a gap, never 0
first_pos : (l f : ℕ) → 0 < f → 0 < first_of l f
first_pos zero f h = h
first_pos (suc l) f h = omega arith

put_pos : (p : ℕ) (s : State) → 0 < (put p s).f
unfolding put
put_pos p s = omega arith

pub sweep_front : (B : Loops) → LoopLaws B → (T : Tables) (need : ℕ → ℕ) (d : ℕ) → B.is_do d ≡ true →
    0 < (sweep B T need d).f
unfolding free inner outer
sweep_front B laws T need d is-do =
    along B laws T need d is-do (λ p s. 0 < s.f)
    (λ p s at i. plain_cases (λ s. 0 < s.f) need p s (λ h. put_pos p s) (λ h. i))
    (λ p l s at i. child_cases (λ s. 0 < s.f) need (T.left l) (T.lay l) l p s
    (λ k. first_pos (T.left l (suc l)) s.f i)
    (λ b k. k.there)
    (λ b k. first_pos (T.left l (suc l)) (suc p) (omega arith)))
    (omega (arith, laws.long d is-do))

pub value_front : (B : Loops) → LoopLaws B → (N : Lines) (T : Tables) (d q : ℕ) → B.is_do d ≡ true →
    0 < (value B N T d q).f
unfolding value
value_front B laws N T d q is-do =
    close_cases (λ s. 0 < s.f) d (N.limit d q) (sweep B T need d)
    (λ h. sweep_front B laws T need d is-do) (λ h. put_pos d (sweep B T need d))
  where
    need : ℕ → ℕ
    need = need_of (N.reach d) q (B.stop d)

-- the row of d
module _
    (B : Loops) (laws : LoopLaws B) (N : Lines) (T : Tables) (table : IsTable B N T) (d : ℕ)
    (is-do : B.is_do d ≡ true) where
  abbrev e : ℕ
  e = B.stop d

  pub row_cost : some_of B N T d ≡ true → T.cost d ≡ least (λ q. (value B N T d q).c) d e
  unfolding cost_of
  row_cost h = table.cost_is d is-do ∙ rw h

  front_some : (q : ℕ) → some_of B N T d ≡ true → front_of B N T d q ≡ best (value B N T d) (T.cost d) e (suc e) q
  unfolding front_of
  front_some q h = rw (h, table.cost_is d is-do)

  pub row_fronts : (q : ℕ) → d < q → q ≤ e → some_of B N T d ≡ true →
      Fronts (value B N T d) (T.cost d) e q (front (T.left d q) (T.choice d q))
  unfolding left_of choice_of
  row_fronts q a b h =
      let i : Fronts (value B N T d) (T.cost d) e q (best (value B N T d) (T.cost d) e (suc e) q) =
      best_is (value B N T d) (T.cost d) e (suc e) q (omega arith) (λ k l m. value_front B laws N T d k is-do) in
      let j : Fronts (value B N T d) (T.cost d) e q (front_of B N T d q) = rw (front_some q h) i in
      rw (table.left_is d q is-do a b, table.choice_is d q is-do a b) j

  pub row_lay : (q g : ℕ) → d < q → q ≤ e → 0 < T.left d q → T.lay d q g ≡ (value B N T d (T.choice d q)).w g
  unfolding lay_of
  row_lay q g a b h =
      let y : ltb 0 (left_of B N T d q) ≡ true =
      lt-ltb 0 (left_of B N T d q) (omega (arith, table.left_is d q is-do a b)) in
      table.lay_is d q g is-do a b ∙ rw (y, table.choice_is d q is-do a b)

  pub row_blank : (q g : ℕ) → d < q → q ≤ e → T.left d q ≡ 0 → T.lay d q g ≡ false
  unfolding lay_of
  row_blank q g a b h =
      let y : ltb 0 (left_of B N T d q) ≡ false =
      le-ltb 0 (left_of B N T d q) (omega (arith, table.left_is d q is-do a b)) in
      table.lay_is d q g is-do a b ∙ rw y

  pub row_idle : (q : ℕ) → d < q → q ≤ e → some_of B N T d ≡ false → (T.cost d ≡ 0) × (T.left d q ≡ 0)
  unfolding cost_of left_of front_of
  row_idle q a b h = (table.cost_is d is-do ∙ rw h, table.left_is d q is-do a b ∙ rw (h, left_of))

  -- a front that is there: something is to cut
  pub row_busy : (q : ℕ) → d < q → q ≤ e → 0 < T.left d q → some_of B N T d ≡ true
  row_busy q a b h = true_by (λ z. omega (arith, (row_idle q a b z).1))

  pub row_there : (q : ℕ) → d < q → q ≤ e → 0 < T.left d q →
      Fronts (value B N T d) (T.cost d) e q (front (T.left d q) (T.choice d q))
  row_there q a b h = row_fronts q a b (row_busy q a b h)
