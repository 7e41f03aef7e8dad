-- One lap: the code's sweep over its lists is the lap's sweep over the nest, and so are its steps.
-- Main statements: `close_none`, `close_in`, `close_put`, `lapped`.
use mathlib.Core.Path.{◌≡◌, refl, sym, ◌∙◌, ap}
use mathlib.Core.Bool.{true, false, ◌&&◌}
use mathlib.Core.List.{List}
use Prim.Native.Nat.{ℕ, ◌+◌, ◌≤◌, ◌<◌, min}
use native.Mathlib.Omega.{arith}
use lib.Dec.{ltb}
use lib.ListN.{set}
use borrow.Author.Tests.{lt-ltb, le-ltb}
use Rattle.laws.specs.Choice.{pick}
use Rattle.laws.specs.Entries.{at}
use Rattle.laws.proofs.Connectives.{and_off}
use Rattle.paper_nests.specs.Nests.{Dep}
use Rattle.paper_nests.specs.Loops.{end_of}
use Rattle.paper_nests.specs.declared.Nest as DN
use Rattle.paper_nests.specs.Stored.{nest_in}
use Rattle.paper_nests.proofs.Loops.{end_there}
use Rattle.plan_method.specs.Sweep.{Tables, put, start}
use Rattle.plan_method.specs.Home.{loops_in, lines_in}
use Rattle.plan_method.proofs.Instance.{loop_laws}
use Rattle.plan_method.proofs.Alike.{Same, Alike, sweep_alike}
use Rattle.plan_sweeps.specs.Listed.{listed, tabled, sweep_of}
use Rattle.argue_claims.specs.Arguments.{Claim}
use Rattle.argue_claims.specs.Arguments as arguments
use Rattle.argue_texts.specs.ArgumentTexts.{steps_text}
use Rattle.argue_texts.specs.declared.Claimed.{Claimed}
use Rattle.argue_key.specs.Laps.{close_up, close_step, lead_in, lap_need, lap_set, lap_swept, lap_end, lap_steps, trace}
use Rattle.argue_spell.specs.Added.{step_text, Added}
use Rattle.argue_spell.proofs.Adding.{added_then, added_as}
use Rattle.argue_trace.specs.Traced.{lead_at, trace_of, TraceSays}
use Rattle.argue_trace.proofs.Events.{steps_append, adds_none, adds_one}
use Rattle.argue_laps.specs.Lapped.{LapRoom, LapGround, CloseSays, LapSays}
use Rattle.argue_laps.proofs.Alike.{trace_alike}
use Rattle.argue_laps.proofs.Suffix.{Suffixed, need_lapped, set_lapped}

-- ---- closing

module _ (d upto c f at : ℕ) (out : List ℕ) where
  kept : (ltb 0 upto && ltb upto f) ≡ false → CloseSays d upto c f at out out c f at
  unfolding close_up close_step
  kept z =
      record {
        c_is = λ s x y. rw (← y, z) x;
        f_is = λ s x y. rw (← y, z) refl;
        step_is = adds_none (rw z);
        near = omega arith;
      }

  pub close_none : upto ≡ 0 → CloseSays d upto c f at out out c f at
  close_none z = kept (rw z)

  pub close_in : f ≤ upto → CloseSays d upto c f at out out c f at
  close_in l = kept (rw (le-ltb upto f l) (and_off (ltb 0 upto)))

  pub close_put : (out' : List ℕ) (next : ℕ) → (upto ≡ 0 → ⊥) → upto < f →
      Added (step_text (arguments.st 1 0)) at out out' next → next ≤ at + 14 →
      CloseSays d upto c f at out out' (c + 1) (d + 1) next
  unfolding close_up close_step put
  close_put out' next n l a k =
      let z : (ltb 0 upto && ltb upto f) ≡ true = rw (lt-ltb 0 upto (omega (arith, n)), lt-ltb upto f l) in
      record {
        c_is = λ s x y. rw (← y, z) (omega arith);
        f_is = λ s x y. rw (← y, z) (omega arith);
        step_is = adds_one {s = arguments.st 1 0} (rw z) a;
        near = k;
      }

-- ---- the lap

module _
    {nest : DN.Nest} {ps own left : List ℕ} {kids : ℕ} {need sets : List ℕ} {claims : List Claimed} {d e from : ℕ}
    (w : LapRoom nest ps own left kids need sets claims d e from)
    {f q num low v : ℕ} (s : Suffixed nest ps d e from f q num)
    (low_is : low ≡ min (at need q) e) (v_is : v ≡ pick (ltb e (at need q)) num (at sets q))
    {upto c m a c' f' next first : ℕ} {out mid out' : List ℕ}
    (t : TraceSays ps own left kids (set need q low) (set sets q v) claims d e out first mid c m a)
    (k : CloseSays d upto c m a mid out' c' f' next)
  where
    abbrev ds : List Dep
    ds = (nest_in nest).deps

    module _ {T : Tables} {cs : List Claim}
        (g : LapGround nest ps own left kids need sets claims d e T cs) where
      alike : Alike (loops_in ps) (listed ps own e) (lines_in ps ds) (lines_in ps ds) T (tabled left kids T.lay) d
      alike =
          record {
            stop_is = sym w.e_is;
            do_is = λ l a b. refl;
            end_is = λ p a b. refl;
            own_is = λ p a b. sym (g.own_is p (omega (arith, end_there ps w.shape d w.is-do)));
            has_is = refl;
            reach_is = λ a i j. refl;
            limit_is = λ q i j. refl;
            left_is = λ l q x a b y. sym (g.left_is l q x a b y);
            lay_is = λ l q h x a b y. refl;
          }

      needs : (a : ℕ) → d < a → a ≤ end_of ps d → lap_need ps ds d from f a ≡ at (set need q low) a
      needs a i j = rw low_is (need_lapped w s g a i j)

      swept : (few : ℕ) → Same (lap_swept ps ds T (lead_in T cs) d from upto few f)
          (sweep_of ps own (set need q low) left kids T.lay d e)
      unfolding lap_swept
      swept few =
          sweep_alike (loops_in ps) (listed ps own e) (loop_laws ps w.shape) (lines_in ps ds) (lines_in ps ds) T
          (tabled left kids T.lay) d w.is-do alike (lap_need ps ds d from f) (at (set need q low)) needs

      c_here : (few : ℕ) → c ≡ (lap_swept ps ds T (lead_in T cs) d from upto few f).c
      c_here few = t.c_is T.lay ∙ sym (swept few).c_is

      f_here : (few : ℕ) → m ≡ (lap_swept ps ds T (lead_in T cs) d from upto few f).f
      f_here few = t.f_is T.lay ∙ sym (swept few).f_is

      traced :
          trace (loops_in ps) T (lap_need ps ds d from f) (lap_set ps ds d from f) (lead_in T cs) d (end_of ps d)
          (end_of ps d) (start (end_of ps d)) ≡
          trace_of ps own left kids (set need q low) (set sets q v) (lead_at left kids claims) T.lay
          d e
      traced =
          trace_alike (loops_in ps) (listed ps own e) (loop_laws ps w.shape) (lines_in ps ds) (lines_in ps ds) T
          (tabled left kids T.lay) d w.is-do alike (lap_need ps ds d from f) (at (set need q low)) needs
          (lap_set ps ds d from f) (at (set sets q v)) (λ a i j. set_lapped w s g v_is a i j) (lead_in T cs)
          (lead_at left kids claims)
          (λ l b x y i j. rw (g.left_is l b x y i j) (sym (g.claims_are l b (T.left l b)))) ∙
          ap (λ (y : ℕ). trace (listed ps own e) (tabled left kids T.lay) (at (set need q low)) (at (set sets q v))
          (lead_at left kids claims) d y y (start y)) (sym w.e_is)

      steps : (few : ℕ) →
          Added (steps_text (lap_steps ps ds T (lead_in T cs) d from upto few f)) first out out' next
      unfolding lap_steps
      steps few =
          let z : Added (steps_text (close_step upto (lap_swept ps ds T (lead_in T cs) d from upto few f).f)) a mid out'
          next = rw (f_here few) at k.step_is in
          let y = added_then (t.steps_are T.lay) z in
          added_as
          (rw traced
          (sym (steps_append
          (trace_of ps own left kids (set need q low) (set sets q v) (lead_at left kids claims) T.lay
          d e) (close_step upto (lap_swept ps ds T (lead_in T cs) d from upto few f).f)))) y

    pub lapped :
        LapSays nest ps own left kids need sets claims d e from upto f out first out' c' f' next
    unfolding lap_end
    lapped =
        record {
          c_is = λ T cs g few. k.c_is (lap_swept ps ds T (lead_in T cs) d from upto few f) (c_here g few) (f_here g few);
          f_is = λ T cs g few. k.f_is (lap_swept ps ds T (lead_in T cs) d from upto few f) (c_here g few) (f_here g few);
          steps_are = λ T cs g few. steps g few;
          near = omega (arith, t.near, k.near, w.short);
        }
