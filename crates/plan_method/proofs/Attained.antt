-- What the table lays for a loop d is best in d and has the table's front, from the claims of the loops directly inside
-- d: the sweep's placement, closed by the prefix, cuts the carried dependences too, by the ring lemma. Where the front
-- is 0, nothing is laid.
-- Main statements: `attained`, `blank`.
use mathlib.Core.Path.{◌≡◌, refl, ◌∙◌, fun_ext, subst⁻¹}
use mathlib.Core.Bool.{true}
use mathlib.Core.Logic.{◌⊎◌, inl}
use Prim.Native.Nat.{ℕ, suc, ◌≤◌, ◌<◌}
use native.Mathlib.Omega.{arith}
use Rattle.laws.proofs.Tests.{never_both}
use Rattle.plan_method.specs.Sweep.{Lines, Tables, State, put, sweep, close, need_of, value}
use Rattle.plan_method.specs.Sweep.{front, IsTable}
use Rattle.plan_method.proofs.World.{World, Inside, Lawful}
use Rattle.plan_method.proofs.Inside.{self_or_inside, first_own}
use Rattle.plan_method.proofs.Claim.{Hit, Sound, Settled, Laid}
use Rattle.plan_method.proofs.Walk.{close_cases, AtPlain}
use Rattle.plan_method.proofs.Choices.{Fronts}
use Rattle.plan_method.proofs.Rows.{row_there, row_lay, row_blank}
use Rattle.plan_method.proofs.Hits.{hit_wider}
use Rattle.plan_method.proofs.Needs.{NeedLaws, need_laws, need_least, need_suffix}
use Rattle.plan_method.proofs.Ring.{limit_low, limit_high, ring_cut}
use Rattle.plan_method.proofs.AttainedBody.{Done}
use Rattle.plan_method.proofs.AttainedSweep.{Swept, Kids, put_swept, swept}

-- what a sweep lays with its front within the limit t
pub record Within (W : World) (T : Tables) (need : ℕ → ℕ) (d t : ℕ) (s : State) : Type 0 where
  pub laid : Swept W T need d d s
  pub within : s.f ≤ t

module _
    (W : World) (N : Lines) (laws : Lawful W N) (T : Tables) (table : IsTable W.loops N T)
    (d : ℕ) (is-do : W.loops.is_do d ≡ true) (kids : Kids W T d) where
  abbrev e : ℕ
  e = W.loops.stop d

  long : d < e
  long = laws.of-loops.long d is-do

  at_first : AtPlain W.loops d d
  at_first =
      record {
        low = omega arith;
        high = long;
        owner = first_own W.loops laws.of-loops d is-do;
        before = inl refl;
      }

  -- nothing lies right after the DO, where the front lies behind
  raised : (need : ℕ → ℕ) (s : State) → suc d < s.f → Swept W T need d d s → Swept W T need d (suc d) s
  raised need s h k =
      record {
        front = record {
          low = λ g z. omega (arith, k.front.first g z);
          high = k.front.high;
          first = k.front.first;
          holds = k.front.holds;
        };
        body = record { mine = k.body.mine; passed = λ l i j u. k.body.passed l i j (omega arith) };
        cuts = record { cut = λ a i. k.cuts.cut a (omega arith) };
      }

  -- the value for a suffix q
  module _ (q : ℕ) (low : d < q) (high : q ≤ e) where
    abbrev need : ℕ → ℕ
    need = need_of (N.reach d) q e

    abbrev v : State
    v = value W.loops N T d q

    needs : NeedLaws W.loops d need
    needs = need_laws W N laws d is-do q

    -- the prefix closed
    closed : (s : State) → Swept W T need d d s → Within W T need d (N.limit d q) (close d (N.limit d q) s)
    unfolding put
    closed s k =
        close_cases (Within W T need d (N.limit d q)) d (N.limit d q) s
        (λ z. record { laid = k; within = z }) (λ z. record { laid = more z; within = above })
      where
        above : d < N.limit d q
        above = limit_low W N laws d is-do q low high

        more : N.limit d q < s.f → Swept W T need d d (put d s)
        more z =
            put_swept W laws.of-loops T d kids need needs d s at_first (raised need s (omega (arith, above)) k)

    valued : Within W T need d (N.limit d q) v
    unfolding value
    valued = closed (sweep W.loops T need d) (swept W laws.of-loops T d kids need needs is-do)

    -- its gaps: the first, one from q on, and those that the dependences ask
    value_holds : v.w v.f ≡ true
    value_holds =
        valued.laid.front.holds (omega (arith, valued.within, limit_high W N laws d is-do q low high))

    value_hit : Hit v.w q e
    value_hit =
        let n : need q ≤ e = need_suffix (N.reach d) q e in
        hit_wider (omega arith) n (valued.laid.cuts.cut q low high n)

    value_line : (a b : ℕ) → W.Line d a b → Hit v.w a b
    value_line a b k =
        let u : d < a = laws.of_lines.line_low d a b is-do k in
        let m : a ≤ b = laws.of_lines.line_long d a b is-do k in
        let h : b ≤ e = laws.of_lines.line_high d a b is-do k in
        let r : need a ≤ b = omega (arith, need_least (N.reach d) q e a, laws.of_lines.reach_least d a b is-do k) in
        hit_wider (omega arith) r (valued.laid.cuts.cut a u (omega arith) (omega arith))

    value_back : (a t : ℕ) → W.Back d a t → Hit v.w (suc d) t ⊎ Hit v.w a e
    value_back =
        let first : Hit v.w (suc d) (N.limit d q) = record {
          gap = v.f;
          low = valued.laid.front.low v.f value_holds;
          high = valued.within;
          holds = value_holds;
        } in
        ring_cut W N laws d is-do q low high v.w first value_hit

    -- what the loops inside ask is done
    value_done : (l : ℕ) → Inside W.loops d l → d < l → Done W T l v.w
    value_done l i z = valued.laid.body.passed l i z i.from

    value_sound : Sound W v.w d
    value_sound =
        record {
          lines = λ l a b i. self_or_inside W.loops d l (λ m. W.Line m a b → Hit v.w a b) i
              (value_line a b) (λ z. (value_done l i z).lines a b);
          backs = λ l a t i.
              self_or_inside W.loops d l
              (λ m. W.Back m a t → Hit v.w (suc m) t ⊎ Hit v.w a (W.loops.stop m)) i
              (value_back a t) (λ z. (value_done l i z).backs a t);
        }

    value_settled : Settled W T.cost v.w d
    value_settled = record { sound = value_sound; inside = λ l i z. (value_done l i z).exact }

  -- the placement that the table takes: the value for the choice
  module _ (q : ℕ) (low : d < q) (high : q ≤ e) (there : 0 < T.left d q) where
    abbrev at : ℕ
    at = T.choice d q

    row : Fronts (value W.loops N T d) (T.cost d) e q (front (T.left d q) at)
    row = row_there W.loops laws.of-loops N T table d is-do q low high there

    at_low : d < at
    at_low = omega (arith, row.low there)

    at_high : at ≤ e
    at_high = row.high there

    made : Swept W T (need at at_low at_high) d d (value W.loops N T d at)
    made = (valued at at_low at_high).laid

    chosen : Laid W T d q (value W.loops N T d at).w
    chosen =
        record {
          low = made.front.low;
          high = made.front.high;
          best = record { settled = value_settled at at_low at_high; exact = made.body.mine ∙ row.exact there };
          hit = hit_wider (row.low there) (omega arith) (value_hit at at_low at_high);
          holds = rw (row.is there) at (value_holds at at_low at_high);
          first = λ g z. omega (arith, made.front.first g z, row.is there);
        }

  pub attained : (q : ℕ) → d < q → q ≤ e → 0 < T.left d q → Laid W T d q (T.lay d q)
  attained q low high h =
      let same : (g : ℕ) → T.lay d q g ≡ (value W.loops N T d (T.choice d q)).w g =
      λ g. row_lay W.loops laws.of-loops N T table d is-do q g low high h in
      subst⁻¹ (λ x. Laid W T d q x) (fun_ext same) (chosen q low high h)

  pub blank : (q : ℕ) → d < q → q ≤ e → T.left d q ≡ 0 → (g : ℕ) → T.lay d q g ≡ true → ⊥
  blank q low high h g k =
      never_both k (row_blank W.loops laws.of-loops N T table d is-do q g low high h)
