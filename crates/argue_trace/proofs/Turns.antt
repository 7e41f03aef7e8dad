-- The turns of a sweep with its steps: what is left to do from a boundary p gives the whole sweep and all its steps.
-- Main definitions: `Turn`, `Tracing`. Main statements: `begin`, `on_put`, `on_skip`, `on_child`, `done`.
use mathlib.Core.Path.{◌≡◌, refl, sym, ◌∙◌, ap}
use mathlib.Core.Bool.{Bool, true, false}
use mathlib.Core.List.{List, [], ◌∷◌, ◌++◌, append-nil, append_assoc}
use Prim.Native.Nat.{ℕ, zero, suc, ◌+◌, ◌-◌, ◌*◌, ◌≤◌, ◌<◌}
use native.Mathlib.Numerals.{add-one}
use native.Mathlib.Omega.{arith}
use lib.Dec.{eqb, ltb}
use lib.ListN.{get_or}
use borrow.Author.Tests.{lt-ltb, le-ltb, eq-eqb, ne_eqb}
use Rattle.laws.specs.Entries.{at}
use Rattle.laws.specs.Entries as entries
use Rattle.plan_method.specs.Sweep.{State, st, bare, only, also, put, seek, step_plain, next, step, walk}
use Rattle.plan_method.specs.Sweep.{sweep}
use Rattle.plan_sweeps.specs.Listed.{row, listed, tabled, laid, Stepped, sweep_of}
use Rattle.argue_claims.specs.Arguments.{Step}
use Rattle.argue_claims.specs.Arguments as arguments
use Rattle.argue_texts.specs.ArgumentTexts.{steps_text}
use Rattle.argue_texts.specs.declared.Claimed.{Claimed}
use Rattle.argue_key.specs.Laps.{event_plain, event_at, event_child, event, trace}
use Rattle.argue_spell.specs.Added.{step_text, Added}
use Rattle.argue_spell.proofs.Adding.{added_none, added_then, added_as}
use Rattle.argue_trace.specs.Traced.{lead_at, trace_of, TraceSays}
use Rattle.argue_trace.proofs.Events.{steps_append, adds_none, adds_one}

module _ (ps own left : List ℕ) (kids : ℕ) (need sets : List ℕ) (lead : ℕ → ℕ → ℕ) (d e : ℕ) where
  module _ (lay : ℕ → ℕ → ℕ → Bool) where
    -- the rest of the walk from the boundary p gives the whole sweep, and its steps after those made all of them
    pub record Turn (p c f : ℕ) (w : ℕ → Bool) (made : List Step) : Type 0 where
      pub fuel : ℕ
      pub enough : p ≤ fuel
      pub rest
          : walk (listed ps own e) (tabled left kids lay) (at need) d fuel p (st c f w) ≡
          sweep_of ps own need left kids lay d e
      pub steps
          : made ++ trace (listed ps own e) (tabled left kids lay) (at need) (at sets) lead d fuel p (st c f w) ≡
          trace_of ps own left kids need sets lead lay d e

    -- with the gaps laid so far
    pub record Held (p c f : ℕ) (made : List Step) : Type 0 where
      pub w : ℕ → Bool
      pub turn : Turn p c f w made

    turn_begin : Turn e 0 (e + 1) bare []
    unfolding sweep
    turn_begin = record { fuel = e; enough = omega arith; rest = rw add-one refl; steps = rw add-one refl }

    -- a turn from the boundary suc p, by what the step, its event and the next boundary are
    turn_on
        : (p p' c f c' f' : ℕ) (w v : ℕ → Bool) (made ev : List Step)
        → d ≤ p
        → p' ≤ p
        → next (listed ps own e) p ≡ p'
        → step (listed ps own e) (tabled left kids lay) (at need) p (st c f w) ≡ st c' f' v
        → event (listed ps own e) (tabled left kids lay) (at need) (at sets) lead p f ≡ ev
        → Turn (suc p) c f w made
        → Turn p' c' f' v (made ++ ev)
    unfolding walk trace
    turn_on p p' c f c' f' w v made ev h m n s x t = go t.fuel t.enough t.rest t.steps
      where
        go
            : (k : ℕ)
            → suc p ≤ k
            → walk (listed ps own e) (tabled left kids lay) (at need) d k (suc p) (st c f w) ≡
            sweep_of ps own need left kids lay d e
            → made ++ trace (listed ps own e) (tabled left kids lay) (at need) (at sets) lead d k (suc p) (st c f w) ≡
            trace_of ps own left kids need sets lead lay d e
            → Turn p' c' f' v (made ++ ev)
        go zero a r q = absurd (omega arith)
        go (suc k) a r q =
            record {
              fuel = k;
              enough = omega arith;
              rest = rw (le-ltb p d h, n, s) at r;
              steps =
                  append_assoc made ev
                  (trace (listed ps own e) (tabled left kids lay) (at need) (at sets) lead d k p' (st c' f' v))
                  ∙ rw (le-ltb p d h, n, s, x) at q;
            }

    turn_done : (p c f : ℕ) (w : ℕ → Bool) (made : List Step) → p ≤ d → Turn p c f w made →
        (st c f w ≡ sweep_of ps own need left kids lay d e) ×
        (made ≡ trace_of ps own left kids need sets lead lay d e)
    unfolding walk trace
    turn_done p c f w made h t = go p t.fuel h t.enough t.rest t.steps
      where
        go
            : (p k : ℕ)
            → p ≤ d
            → p ≤ k
            → walk (listed ps own e) (tabled left kids lay) (at need) d k p (st c f w) ≡
            sweep_of ps own need left kids lay d e
            → made ++ trace (listed ps own e) (tabled left kids lay) (at need) (at sets) lead d k p (st c f w) ≡
            trace_of ps own left kids need sets lead lay d e
            → (st c f w ≡ sweep_of ps own need left kids lay d e) ×
            (made ≡ trace_of ps own left kids need sets lead lay d e)
        go zero zero h a r q = (r, sym (append-nil made) ∙ q)
        go zero (suc k) h a r q = (r, sym (append-nil made) ∙ q)
        go (suc p) zero h a r q = absurd (omega arith)
        go (suc p) (suc k) h a r q =
            (rw (lt-ltb p d (omega arith)) at r, sym (append-nil made) ∙ rw (lt-ltb p d (omega arith)) at q)

    turn_put : (p c f : ℕ) (w : ℕ → Bool) (made : List Step) → d < p → (get_or ps (p - 1) 0 ≡ 2 → ⊥) → at need p < f →
        Turn p c f w made → Turn (p - 1) (c + 1) p (also (only p) w) (made ++ (arguments.st (at sets p) 0 ∷ []))
    unfolding put next step step_plain event event_plain
    turn_put zero c f w made h n m t = absurd (omega arith)
    turn_put (suc p) c f w made h n m t =
        let z : suc p - 1 ≡ p = omega arith in
        let y : eqb (get_or ps p 0) 2 ≡ false = ne_eqb (get_or ps p 0) 2 (rw z at n) in
        let u = lt-ltb (at need (suc p)) f m in
        rw (z, add-one c)
        (turn_on p p c f (suc c) (suc p) w (also (only (suc p)) w) made (arguments.st (at sets (suc p)) 0 ∷ [])
        (omega arith) (omega arith) (rw y) (rw (y, u)) (rw (y, u)) t)

    turn_skip : (p c f : ℕ) (w : ℕ → Bool) (made : List Step) → d < p → (get_or ps (p - 1) 0 ≡ 2 → ⊥) → f ≤ at need p →
        Turn p c f w made → Turn (p - 1) c f w (made ++ [])
    unfolding next step step_plain event event_plain
    turn_skip zero c f w made h n m t = absurd (omega arith)
    turn_skip (suc p) c f w made h n m t =
        let z : suc p - 1 ≡ p = omega arith in
        let y : eqb (get_or ps p 0) 2 ≡ false = ne_eqb (get_or ps p 0) 2 (rw z at n) in
        let u = le-ltb (at need (suc p)) f m in
        rw z
        (turn_on p p c f c f w w made [] (omega arith) (omega arith) (rw y) (rw (y, u)) (rw (y, u)) t)

    turn_child
        : (p c f c' f' ask b : ℕ) (w : ℕ → Bool) (made : List Step)
        → d < p
        → get_or ps (p - 1) 0 ≡ 2
        → at own (p - 1) ≤ p - 1
        → b ≡ seek (at need) f (at own (p - 1)) p
        → Stepped need left kids (at own (p - 1)) (p - 1) c f c' f' ask
        → Turn p c f w made
        → Turn (at own (p - 1)) c' f' (laid (ltb c c') (p - 1) (lay (at own (p - 1)) ask) w)
        (made ++ event_at (row left kids) (at sets) (lead (at own (p - 1))) (at own (p - 1)) (p - 1) b)
    unfolding next step event event_child
    turn_child zero c f c' f' ask b w made h n m x s t = absurd (omega arith)
    turn_child (suc p) c f c' f' ask b w made h n m x s t =
        let z : suc p - 1 ≡ p = omega arith in
        let y : eqb (get_or ps p 0) 2 ≡ true = eq-eqb (get_or ps p 0) 2 (rw z at n) in
        let u : Stepped need left kids (at own p) p c f c' f' ask = rw z at s in
        let v : b ≡ seek (at need) f (at own p) (suc p) = rw z at x in
        rw z
        (turn_on p (at own p) c f c' f' w (laid (ltb c c') p (lay (at own p) ask) w) made
        (event_at (row left kids) (at sets) (lead (at own p)) (at own p) p b) (omega arith) (rw z at m) (rw y)
        (rw y (u.step_is (lay (at own p)) w)) (rw (y, v)) t)

-- the entry of a list, where `at` is a place
abbrev entry : List ℕ → ℕ → ℕ
entry xs i = entries.at xs i

-- what a turn of the code keeps
pub record Tracing
    (ps own left : List ℕ)
    (kids : ℕ)
    (need sets : List ℕ)
    (claims : List Claimed)
    (d e : ℕ)
    (out₀ : List ℕ)
    (start : ℕ)
    (out : List ℕ)
    (c f at p : ℕ)
    : Type 0 where
  pub high : p ≤ e
  pub small : c + p ≤ e
  pub near : at + 14 * p ≤ start + 14 * e
  pub made : List Step
  pub added : Added (steps_text made) start out₀ out at
  pub held
      : (lay : ℕ → ℕ → ℕ → Bool)
      → Held ps own left kids need sets (lead_at left kids claims) d e lay p c f made

module _ {ps own left : List ℕ} {kids : ℕ} {need sets : List ℕ} {claims : List Claimed} {d e : ℕ} {out₀ : List ℕ}
    {start : ℕ} where
  pub begin : Tracing ps own left kids need sets claims d e out₀ start out₀ 0 (e + 1) start e
  unfolding steps_text
  begin =
      record {
        high = omega arith;
        small = omega arith;
        near = omega arith;
        made = [];
        added = added_none start out₀;
        held = λ lay.
            record {
              w = bare;
              turn = turn_begin ps own left kids need sets (lead_at left kids claims) d e lay;
            };
      }

  module _ {out : List ℕ} {c f at p : ℕ}
      (s : Tracing ps own left kids need sets claims d e out₀ start out c f at p) where
    -- the steps of one turn more
    more : (ev : List Step) {out' : List ℕ} {at' : ℕ} → Added (steps_text ev) at out out' at' →
        Added (steps_text (s.made ++ ev)) start out₀ out' at'
    more ev a = added_as (sym (steps_append s.made ev)) (added_then s.added a)

    module _ (inside : d < p) where
      pub on_put : {out' : List ℕ} {at' : ℕ} → (get_or ps (p - 1) 0 ≡ 2 → ⊥) → entry need p < f →
          Added (step_text (arguments.st (entry sets p) 0)) at out out' at' → at' ≤ at + 14 →
          Tracing ps own left kids need sets claims d e out₀ start out' (c + 1) p at' (p - 1)
      on_put n m a k =
          record {
            high = omega (arith, s.high);
            small = omega (arith, s.small);
            near = omega (arith, s.near);
            made = s.made ++ (arguments.st (entry sets p) 0 ∷ []);
            added = more (arguments.st (entry sets p) 0 ∷ []) (adds_one refl a);
            held = λ lay.
                let h = s.held lay in
                record {
                  w = also (only p) h.w;
                  turn = turn_put ps own left kids need sets (lead_at left kids claims) d e lay p c f
                      h.w s.made inside n m h.turn;
                };
          }

      pub on_skip : (get_or ps (p - 1) 0 ≡ 2 → ⊥) → f ≤ entry need p →
          Tracing ps own left kids need sets claims d e out₀ start out c f at (p - 1)
      on_skip n m =
          record {
            high = omega (arith, s.high);
            small = omega (arith, s.small);
            near = omega (arith, s.near);
            made = s.made ++ [];
            added = more [] (adds_none refl);
            held = λ lay.
                let h = s.held lay in
                record {
                  w = h.w;
                  turn = turn_skip ps own left kids need sets (lead_at left kids claims) d e lay p c f
                      h.w s.made inside n m h.turn;
                };
          }

      pub on_child : {out' : List ℕ} {at' c' f' ask b : ℕ} → get_or ps (p - 1) 0 ≡ 2 → entry own (p - 1) ≤ p - 1 →
          b ≡ seek (entry need) f (entry own (p - 1)) p →
          Stepped need left kids (entry own (p - 1)) (p - 1) c f c' f' ask →
          Added
          (steps_text (event_at (row left kids) (entry sets) (lead_at left kids claims (entry own (p - 1)))
          (entry own (p - 1)) (p - 1) b)) at out out' at' →
          at' ≤ at + 14 →
          Tracing ps own left kids need sets claims d e out₀ start out' c' f' at' (entry own (p - 1))
      on_child {c' = c'} {f'} {ask} {b} n m x t a k =
          record {
            high = omega (arith, s.high);
            small = omega (arith, s.small, t.grows);
            near = omega (arith, s.near);
            made = s.made ++
                event_at (row left kids) (entry sets) (lead_at left kids claims (entry own (p - 1)))
                (entry own (p - 1)) (p - 1) b;
            added = more
                (event_at (row left kids) (entry sets) (lead_at left kids claims (entry own (p - 1)))
                (entry own (p - 1)) (p - 1) b) a;
            held = λ lay.
                let h = s.held lay in
                record {
                  w = laid (ltb c c') (p - 1) (lay (entry own (p - 1)) ask) h.w;
                  turn = turn_child ps own left kids need sets (lead_at left kids claims) d e lay p c f
                      c' f' ask b h.w s.made inside n m x t h.turn;
                };
          }

    pub done : p ≤ d → TraceSays ps own left kids need sets claims d e out₀ start out c f at
    done l =
        record {
          c_is = λ lay. ap (λ (x : State). x.c) (whole lay).0;
          f_is = λ lay. ap (λ (x : State). x.f) (whole lay).0;
          steps_are = λ lay. added_as (ap steps_text (whole lay).1) s.added;
          few = omega (arith, s.small);
          near = omega (arith, s.near);
        }
      where
        whole : (lay : ℕ → ℕ → ℕ → Bool) →
            (st c f (s.held lay).w ≡ sweep_of ps own need left kids lay d e) ×
            (s.made ≡ trace_of ps own left kids need sets (lead_at left kids claims) lay d e)
        whole lay =
            turn_done ps own left kids need sets (lead_at left kids claims) d e lay p c f
            (s.held lay).w s.made l (s.held lay).turn
