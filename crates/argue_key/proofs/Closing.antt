-- A lap that ends before the front it began with, or is closed by a barrier right after the DO, lays a placement that
-- is settled in the loop: so it counts the loop's cost at least, and where it counts just that, the row's front is no
-- later.
-- Main statements: `near`, `far`.
use mathlib.Core.Path.{◌≡◌, refl, ◌∙◌}
use mathlib.Core.Bool.{true}
use mathlib.Core.Logic.{◌⊎◌, inl, inr, ⊎_elim}
use Prim.Native.Nat.{ℕ, suc, ◌≤◌, ◌<◌}
use native.Mathlib.Omega.{arith}
use Rattle.laws.proofs.Tests.{le_or}
use Rattle.plan_method.specs.Sweep.{Lines, Tables, State, need_of, put, sweep, IsTable}
use Rattle.plan_method.proofs.World.{World, Inside, Lawful}
use Rattle.plan_method.proofs.Inside.{self_or_inside, first_own}
use Rattle.plan_method.proofs.Claim.{Hit, Settled, Leads, Claim}
use Rattle.plan_method.proofs.Hits.{hit_wider}
use Rattle.plan_method.proofs.Needs.{NeedLaws, need_laws, need_least, need_suffix}
use Rattle.plan_method.proofs.Walk.{AtPlain}
use Rattle.plan_method.proofs.AttainedBody.{Done}
use Rattle.plan_method.proofs.AttainedSweep.{Swept, Kids, put_swept, swept}
use Rattle.plan_method.proofs.Theorem.{claim}

module _
    (W : World) (N : Lines) (laws : Lawful W N) (T : Tables) (table : IsTable W.loops N T)
    (d : ℕ) (is-do : W.loops.is_do d ≡ true) (busy : 0 < T.left d (suc d))
    (q f : ℕ) (q_low : 0 < q → d < q) (q_high : q ≤ W.loops.stop d) (f_low : d < f)
    (f_high : f ≤ suc (W.loops.stop d))
    (covers : (a t : ℕ) → W.Back d a t → t < f → a ≤ q) where
  abbrev e : ℕ
  e = W.loops.stop d

  abbrev need : ℕ → ℕ
  need = need_of (N.reach d) q e

  abbrev s : State
  s = sweep W.loops T need d

  kids : Kids W T d
  kids l a b c u = claim W N laws T table l a

  needs : NeedLaws W.loops d need
  needs = need_laws W N laws d is-do q

  whole : Swept W T need d d s
  whole = swept W laws.of-loops T d kids need needs is-do

  at_first : AtPlain W.loops d d
  at_first =
      record {
        low = omega arith;
        high = laws.of-loops.long d is-do;
        owner = first_own W.loops laws.of-loops d is-do;
        before = inl refl;
      }

  -- a barrier right after the DO, where the front lies behind
  raised : suc d < s.f → Swept W T need d (suc d) s
  raised h =
      record {
        front = record {
          low = λ g z. omega (arith, whole.front.first g z, h);
          high = whole.front.high;
          first = whole.front.first;
          holds = whole.front.holds;
        };
        body = record { mine = whole.body.mine; passed = λ l i j u. whole.body.passed l i j (omega (arith, u)) };
        cuts = record { cut = λ a i. whole.cuts.cut a (omega (arith, i)) };
      }

  -- what is laid with its front no later than f
  module _ (v : State) (laid : Swept W T need d d v) (within : v.f ≤ f) where
    suffix : (a : ℕ) → d < a → a ≤ q → Hit v.w a e
    suffix a u h =
        let n : need q ≤ e = need_suffix (N.reach d) q e in
        hit_wider h n (laid.cuts.cut q (q_low (omega (arith, u, h))) q_high n)

    line : (a b : ℕ) → W.Line d a b → Hit v.w a b
    line a b k =
        let u : d < a = laws.of_lines.line_low d a b is-do k in
        let m : a ≤ b = laws.of_lines.line_long d a b is-do k in
        let h : b ≤ e = laws.of_lines.line_high d a b is-do k in
        let r : need a ≤ b = omega (arith, need_least (N.reach d) q e a, laws.of_lines.reach_least d a b is-do k) in
        hit_wider (omega arith) r (laid.cuts.cut a u (omega (arith, m, h)) (omega (arith, r, h)))

    back : (a t : ℕ) → W.Back d a t → Hit v.w (suc d) t ⊎ Hit v.w a e
    back a t k = ⊎_elim
        (λ (z : f ≤ t). (
        let there : v.w v.f ≡ true = laid.front.holds
        (omega (arith, within, z, laws.of_lines.back_high d a t is-do k)) in
        inl (record {
          gap = v.f;
          low = laid.front.low v.f there;
          high = omega (arith, within, z);
          holds = there;
        })))
        (λ (z : t < f). inr (suffix a (laws.of_lines.back_low d a t is-do k) (covers a t k z)))
        (le_or f t)

    done : (l : ℕ) → Inside W.loops d l → d < l → Done W T l v.w
    done l i z = laid.body.passed l i z i.from

    settled : Settled W T.cost v.w d
    settled =
        record {
          sound = record {
            lines = λ l a b i. self_or_inside W.loops d l (λ m. W.Line m a b → Hit v.w a b) i
                (line a b) (λ z. (done l i z).lines a b);
            backs = λ l a t i.
                self_or_inside W.loops d l
                (λ m. W.Back m a t → Hit v.w (suc m) t ⊎ Hit v.w a (W.loops.stop m)) i
                (back a t) (λ z. (done l i z).backs a t);
          };
          inside = λ l i z. (done l i z).exact;
        }

    mine : Claim W T d
    mine = claim W N laws T table d is-do

    pub at_cost : T.cost d ≤ v.c
    at_cost = omega (arith, mine.lower v.w settled, laid.body.mine)

    some : Hit v.w (suc d) e
    some = mine.some v.w busy settled

    pub front_there : v.w v.f ≡ true
    front_there = laid.front.holds (omega (arith, laid.front.first some.gap some.holds, some.high))

    leads : v.c ≡ T.cost d → (a : ℕ) → d < a → Hit v.w a e → (0 < T.left d a) × (T.left d a ≤ v.f)
    leads z a u h =
        let l : Leads W T d a v.w =
        mine.leftmost v.w a (record { settled = settled; exact = laid.body.mine ∙ z }) u h in (
          l.there,
          l.least v.f (laid.front.low v.f front_there) (laid.front.high v.f front_there)
              front_there,
        )

    pub leads_from : v.c ≡ T.cost d → (a : ℕ) → d < a → (a ≤ q) ⊎ (a ≡ suc d) →
        (0 < T.left d a) × (T.left d a ≤ v.f)
    leads_from z a u (inl h) = leads z a u (suffix a u h)
    leads_from z a u (inr h) = leads z a u (rw h some)

  pub record Costs (c y : ℕ) : Type 0 where
    pub at_least : T.cost d ≤ c
    pub front : c ≡ T.cost d → (a : ℕ) → d < a → (a ≤ q) ⊎ (a ≡ suc d) → (0 < T.left d a) × (T.left d a ≤ y)

  pub near : s.f ≤ f → Costs s.c s.f
  near h = record { at_least = at_cost s whole h; front = leads_from s whole h }

  pub far : f < s.f → Costs (suc s.c) (suc d)
  unfolding put
  far h =
      let laid : Swept W T need d d (put d s) =
      put_swept W laws.of-loops T d kids need needs d s at_first (raised (omega (arith, h, f_low))) in
      record {
        at_least = at_cost (put d s) laid (omega (arith, f_low));
        front = leads_from (put d s) laid
            (omega (arith, f_low));
      }
