-- The turns of a sweep: what is left to do from a boundary p gives the whole sweep.
-- Main definition: `Turn`. Main statements: `begin`, `on_put`, `on_skip`, `on_child`, `done`.
use mathlib.Core.Path.{◌≡◌, refl, sym, ◌∙◌}
use mathlib.Core.Bool.{Bool, true, false}
use mathlib.Core.List.{List}
use Prim.Native.Nat.{ℕ, zero, suc, ◌+◌, ◌-◌, ◌≤◌, ◌<◌}
use native.Mathlib.Numerals.{add-one}
use native.Mathlib.Omega.{arith}
use lib.Dec.{eqb, ltb}
use lib.ListN.{get_or}
use borrow.Author.Tests.{lt-ltb, le-ltb, eq-eqb, ne_eqb}
use Rattle.laws.specs.Entries.{at}
use Rattle.plan_method.specs.Sweep.{State, st, bare, only, also, put, step_plain, step_child, next, step, walk, sweep}
use Rattle.plan_sweeps.specs.Listed.{row, listed, tabled, laid, Stepped, sweep_of}

-- the rest of the walk from the boundary p gives the whole sweep; w are the gaps laid so far
pub record Turn
    (ps own need left : List ℕ)
    (kids d e : ℕ)
    (lay : ℕ → ℕ → ℕ → Bool)
    (p c f : ℕ)
    (w : ℕ → Bool)
    : Type 0 where
  pub fuel : ℕ
  pub enough : p ≤ fuel
  pub rest
      : walk (listed ps own e) (tabled left kids lay) (at need) d fuel p (st c f w) ≡
      sweep_of ps own need left kids lay d e

module _ (ps own need left : List ℕ) (kids d e : ℕ) (lay : ℕ → ℕ → ℕ → Bool) where
  pub begin : Turn ps own need left kids d e lay e 0 (e + 1) bare
  unfolding sweep
  begin = record { fuel = e; enough = omega arith; rest = rw add-one refl }

  -- one turn of the walk
  turn
      : (k p : ℕ) (s : State) → (ltb p d ≡ false)
      → walk (listed ps own e) (tabled left kids lay) (at need) d (suc k) (suc p) s ≡
      walk (listed ps own e) (tabled left kids lay) (at need) d k (next (listed ps own e) p)
      (step (listed ps own e) (tabled left kids lay) (at need) p s)
  unfolding walk
  turn k p s h = rw h

  next_plain : (p : ℕ) → eqb (get_or ps p 0) 2 ≡ false → next (listed ps own e) p ≡ p
  unfolding next
  next_plain p h = rw h

  next_child : (p : ℕ) → eqb (get_or ps p 0) 2 ≡ true → next (listed ps own e) p ≡ at own p
  unfolding next
  next_child p h = rw h

  step_put : (p c f : ℕ) (w : ℕ → Bool) → eqb (get_or ps p 0) 2 ≡ false → at need (suc p) < f →
      step (listed ps own e) (tabled left kids lay) (at need) p (st c f w) ≡ put p (st c f w)
  unfolding step step_plain
  step_put p c f w h n = rw (h, lt-ltb (at need (suc p)) f n)

  step_skip : (p c f : ℕ) (w : ℕ → Bool) → eqb (get_or ps p 0) 2 ≡ false → f ≤ at need (suc p) →
      step (listed ps own e) (tabled left kids lay) (at need) p (st c f w) ≡ st c f w
  unfolding step step_plain
  step_skip p c f w h n = rw (h, le-ltb (at need (suc p)) f n)

  step-over : (p c f : ℕ) (w : ℕ → Bool) → eqb (get_or ps p 0) 2 ≡ true →
      step (listed ps own e) (tabled left kids lay) (at need) p (st c f w) ≡
      step_child (at need) (row left kids) (lay (at own p)) (at own p) p (st c f w)
  unfolding step
  step-over p c f w h = rw h

  -- a turn from the boundary suc p, by what the step and the next boundary are
  on
      : (p p' c f c' f' : ℕ) (w v : ℕ → Bool)
      → d ≤ p
      → p' ≤ p
      → next (listed ps own e) p ≡ p'
      → step (listed ps own e) (tabled left kids lay) (at need) p (st c f w) ≡ st c' f' v
      → Turn ps own need left kids d e lay (suc p) c f w
      → Turn ps own need left kids d e lay p' c' f' v
  on p p' c f c' f' w v h m n s t = go t.fuel t.enough t.rest
    where
      go
          : (k : ℕ)
          → suc p ≤ k
          → walk (listed ps own e) (tabled left kids lay) (at need) d k (suc p) (st c f w) ≡
          sweep_of ps own need left kids lay d e
          → Turn ps own need left kids d e lay p' c' f' v
      go zero a r = absurd (omega arith)
      go (suc k) a r =
          let z = turn k p (st c f w) (le-ltb p d h) in
          record { fuel = k; enough = omega arith; rest = rw (n, s) at (sym z ∙ r) }

  pub on_put
      : (p c f : ℕ) (w : ℕ → Bool) → d < p → (get_or ps (p - 1) 0 ≡ 2 → ⊥) → at need p < f
      → Turn ps own need left kids d e lay p c f w →
      Turn ps own need left kids d e lay (p - 1) (c + 1) p (also (only p) w)
  unfolding put
  on_put zero c f w h n m t = absurd (omega arith)
  on_put (suc p) c f w h n m t =
      let z : suc p - 1 ≡ p = omega arith in
      let y : eqb (get_or ps p 0) 2 ≡ false = ne_eqb (get_or ps p 0) 2 (rw z at n) in
      rw (z, add-one c)
      (on p p c f (suc c) (suc p) w (also (only (suc p)) w) (omega arith) (omega arith) (next_plain p y)
      (step_put p c f w y m) t)

  pub on_skip
      : (p c f : ℕ) (w : ℕ → Bool) → d < p → (get_or ps (p - 1) 0 ≡ 2 → ⊥) → f ≤ at need p
      → Turn ps own need left kids d e lay p c f w → Turn ps own need left kids d e lay (p - 1) c f w
  on_skip zero c f w h n m t = absurd (omega arith)
  on_skip (suc p) c f w h n m t =
      let z : suc p - 1 ≡ p = omega arith in
      let y : eqb (get_or ps p 0) 2 ≡ false = ne_eqb (get_or ps p 0) 2 (rw z at n) in
      rw z (on p p c f c f w w (omega arith) (omega arith) (next_plain p y) (step_skip p c f w y m) t)

  pub on_child
      : (p c f c' f' ask : ℕ) (w : ℕ → Bool) → d < p → get_or ps (p - 1) 0 ≡ 2 → at own (p - 1) ≤ p - 1
      → Stepped need left kids (at own (p - 1)) (p - 1) c f c' f' ask
      → Turn ps own need left kids d e lay p c f w
      → Turn ps own need left kids d e lay (at own (p - 1)) c' f'
      (laid (ltb c c') (p - 1) (lay (at own (p - 1)) ask) w)
  on_child zero c f c' f' ask w h n m s t = absurd (omega arith)
  on_child (suc p) c f c' f' ask w h n m s t =
      let z : suc p - 1 ≡ p = omega arith in
      let y : eqb (get_or ps p 0) 2 ≡ true = eq-eqb (get_or ps p 0) 2 (rw z at n) in
      let u : Stepped need left kids (at own p) p c f c' f' ask = rw z at s in
      rw z
      (on
      p
      (at own p)
      c
      f
      c'
      f'
      w
      (laid (ltb c c') p (lay (at own p) ask) w)
      (omega arith)
      (rw z at m)
      (next_child p y)
      (step-over p c f w y ∙ u.step_is (lay (at own p)) w)
      t)

  pub done : (p c f : ℕ) (w : ℕ → Bool) → p ≤ d → Turn ps own need left kids d e lay p c f w → st c f w ≡
      sweep_of ps own need left kids lay d e
  unfolding walk
  done p c f w h t = go p t.fuel h t.enough t.rest
    where
      go
          : (p k : ℕ)
          → p ≤ d
          → p ≤ k
          → walk (listed ps own e) (tabled left kids lay) (at need) d k p (st c f w) ≡
          sweep_of ps own need left kids lay d e
          → st c f w ≡ sweep_of ps own need left kids lay d e
      go zero zero h a r = r
      go zero (suc k) h a r = r
      go (suc p) zero h a r = absurd (omega arith)
      go (suc p) (suc k) h a r = rw (lt-ltb p d (omega arith)) at r
