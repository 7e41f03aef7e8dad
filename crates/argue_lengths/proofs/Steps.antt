-- How many steps a claim has. Each lap but the last ends with a front further on than the lap before, and two laps that
-- find one start uncut end with one front: so all of them together find no start twice.
-- Main statements: `laps_few`, `head_steps`, `few_steps`.
use mathlib.Core.Path.{◌≡◌, refl, sym, ◌∙◌}
use mathlib.Core.Bool.{Bool, true, false, ◌&&◌}
use mathlib.Core.List.{List, [], ◌∷◌, ◌++◌}
use mathlib.Core.Logic.{◌⊎◌}
use Prim.Native.Nat.{ℕ, zero, suc, ◌+◌, ◌≤◌, ◌<◌}
use native.Mathlib.Omega.{arith}
use lib.Dec.{eqb, ltb}
use lib.ListN.{length, length-append}
use borrow.Author.Tests.{eqb-true, ltb-true, ltb-false, le-ltb}
use Rattle.laws.specs.Choice.{pick, when}
use Rattle.laws.proofs.Tests.{and_true}
use Rattle.laws.specs.Members.{Among}
use Rattle.paper_nests.specs.Nests.{Dep, Nest}
use Rattle.paper_nests.specs.Loops.{is_do, end_of}
use Rattle.paper_nests.specs.Valid.{is_valid}
use Rattle.paper_nests.proofs.Deps.{valid_is, deps_fit}
use Rattle.paper_nests.proofs.Loops.{end_there}
use Rattle.paper_placements.specs.Placements.{loop_count}
use Rattle.paper_barred.specs.Reduced.{is_blocked}
use Rattle.plan_method.specs.Sweep.{Loops, Tables, State, need_of, put, start, sweep, IsTable}
use Rattle.plan_method.specs.Home.{loops_in, lines_in, reach_of}
use Rattle.plan_method.proofs.World.{Lawful}
use Rattle.plan_method.proofs.Walk.{stop_bound}
use Rattle.plan_method.proofs.Counts.{cnt}
use Rattle.plan_method.proofs.Instance.{world_of, AllFit}
use Rattle.plan_theorem.specs.KeyOf.{plain_key}
use Rattle.argue_claims.specs.Arguments.{Step, Claim, st}
use Rattle.argue_key.specs.Laps.{suffix_of, lap_need, lap_set, close_up, close_step, is_enough, lap_swept, lap_end, lap_steps}
use Rattle.argue_key.specs.Laps.{trace, laps, Head, few_for, steps_for, lead_in, plain_argument, argument_of}
use Rattle.argue_key.proofs.Heads.{left_high, Low, Side, lap_worse}
use Rattle.argue_key.proofs.HeadLists.{head_of}
use Rattle.argue_key.proofs.Plain.{T, laws, table, costs}
use Rattle.argue_lengths.specs.Lengths.{MOST-STEPS}
use Rattle.argue_lengths.proofs.Falling.{falls, outcome, walk_falls, falls_high, trace_counts}
use Rattle.argue_lengths.proofs.Made.{each_claim}
use Rattle.argue_lengths.proofs.Plain.{PlainOf, plain_of}

-- the count is no more than the numbers there are, and that of two tests that exclude each other no more than that of
-- a test that both imply
cnt_most : (f : ℕ → Bool) (n : ℕ) → cnt f n ≤ n
unfolding cnt
cnt_most f zero = omega arith
cnt_most f (suc n) = omega (arith, cnt_most f n, most (f (suc n)))
  where
    most : (t : Bool) → when t 1 ≤ 1
    most true = omega arith
    most false = omega arith

cnt_parts : (f g h : ℕ → Bool) (n : ℕ) → ((a : ℕ) → when (f a) 1 + when (g a) 1 ≤ when (h a) 1) →
    cnt f n + cnt g n ≤ cnt h n
unfolding cnt
cnt_parts f g h zero e = omega arith
cnt_parts f g h (suc n) e = omega (arith, e (suc n), cnt_parts f g h n e)

-- at v, or beyond it: in either case beyond what is less
beyond : (f v x : ℕ) → f < v → when (eqb x v) 1 + when (ltb v x) 1 ≤ when (ltb f x) 1
beyond f v x h = go (eqb x v) refl (ltb v x) refl (ltb f x) refl
  where
    go : (t : Bool) → eqb x v ≡ t → (u : Bool) → ltb v x ≡ u → (w : Bool) → ltb f x ≡ w → when t 1 + when u 1 ≤ when w 1
    go true a true b w c = absurd (omega (arith, eqb-true x v a, ltb-true v x b))
    go true a false b true c = omega arith
    go true a false b false c = absurd (omega (arith, eqb-true x v a, ltb-false f x c, h))
    go false a true b true c = omega arith
    go false a true b false c = absurd (omega (arith, ltb-true v x b, ltb-false f x c, h))
    go false a false b w c = omega arith

-- no front in the range sees the suffix
unseen : (reach : ℕ → ℕ) (q e a f : ℕ) → f ≤ e → ltb (need_of reach q e a) f ≡ ltb (reach a) f
unfolding need_of
unseen reach q e a f h = go (eqb a q && ltb e (reach a)) refl
  where
    go : (t : Bool) → (eqb a q && ltb e (reach a)) ≡ t → ltb (pick t e (reach a)) f ≡ ltb (reach a) f
    go true z =
        let w : e < reach a = ltb-true e (reach a) (and_true (eqb a q) (ltb e (reach a)) z).1 in
        le-ltb e f h ∙ sym (le-ltb (reach a) f (omega (arith, w, h)))
    go false z = refl

-- a lap that ends with a front further on has no step for the supposed gap
record Open (d upto : ℕ) (s : State) : Type 0 where
  none : length (close_step upto s.f) ≤ 0
  same : (close_up d upto s).f ≡ s.f

still_open : (d upto f : ℕ) (s : State) → d < f → f < (close_up d upto s).f → Open d upto s
unfolding close_up close_step put
still_open d upto f s low far = go (ltb 0 upto && ltb upto s.f) refl far
  where
    go : (t : Bool) → (ltb 0 upto && ltb upto s.f) ≡ t → f < (pick t (put d s) s).f → Open d upto s
    go true z h = absurd (omega (arith, h, low))
    go false z h = record { none = rw z (omega arith); same = rw z refl }

close_one : (upto f : ℕ) → length (close_step upto f) ≤ 1
unfolding close_step
close_one upto f = go (ltb 0 upto && ltb upto f)
  where
    go : (t : Bool) → length (pick t (st 1 0 ∷ []) []) ≤ 1
    go true = omega arith
    go false = omega arith

module _
    (n : Nest) (key : List ℕ) (laws : Lawful (world_of n.points n.deps) (lines_in n.points n.deps))
    (fit : AllFit n.points n.deps) (T : Tables)
    (table : IsTable (loops_in n.points) (lines_in n.points n.deps) T)
    (costs : (m : ℕ) → is_do n.points m ≡ true → loop_count n key m ≡ T.cost m)
    (h : Head) (is-do : is_do n.points h.loop ≡ true) (busy : 0 < T.left h.loop (suc h.loop))
    (kind : Low n key laws fit T table costs h ⊎ Side n key laws fit T table costs h) (lead : ℕ → ℕ → ℕ) where
  abbrev ps : List ℕ
  ps = n.points

  abbrev ds : List Dep
  ds = n.deps

  abbrev B : Loops
  B = loops_in n.points

  abbrev d : ℕ
  d = h.loop

  abbrev e : ℕ
  e = end_of n.points h.loop

  abbrev few : ℕ
  few = few_for T h

  abbrev swept_at : ℕ → State
  swept_at = lap_swept ps ds T lead d h.from h.upto few

  abbrev end_at : ℕ → State
  end_at = lap_end ps ds T lead d h.from h.upto few

  abbrev steps_at : ℕ → List Step
  steps_at = lap_steps ps ds T lead d h.from h.upto few

  abbrev to : ℕ → ℕ
  to = outcome B T (reach_of ps ds d) d e e

  high : (l q : ℕ) → is_do ps l ≡ true → l < q → q ≤ end_of ps l → T.left l q ≤ end_of ps l
  high l q i u w = left_high n key laws fit T table costs l q i u w

  swept_is : (f : ℕ) → (swept_at f).f ≡ falls B T (lap_need ps ds d h.from f) d e e (suc e)
  unfolding lap_swept sweep
  swept_is f = walk_falls B T (lap_need ps ds d h.from f) d e e (start e)

  swept_high : (f : ℕ) → (swept_at f).f ≤ suc e
  swept_high f =
      omega (
        arith,
        swept_is f,
        falls_high B laws.of-loops T d is-do high (lap_need ps ds d h.from f) (suc e) e e (suc e) (omega arith)
            (omega arith) (stop_bound B laws.of-loops d is-do) (omega arith),
      )

  opens : (f : ℕ) → d < f → f < (end_at f).f → Open d h.upto (swept_at f)
  unfolding lap_end
  opens f u far = still_open d h.upto f (swept_at f) u far

  ends_open : (f : ℕ) → Open d h.upto (swept_at f) → (end_at f).f ≡ (swept_at f).f
  unfolding lap_end
  ends_open f o = o.same

  -- the steps of a lap are no more than the starts that lead to its front
  lap-steps : (f : ℕ) →
      length (steps_at f) ≤ cnt (λ a. eqb (to a) (swept_at f).f) e + length (close_step h.upto (swept_at f).f)
  unfolding lap_steps lap_need
  lap-steps f =
      let tr : List Step = trace B T (lap_need ps ds d h.from f) (lap_set ps ds d h.from f) lead d e e (start e) in
      let few_here : length tr ≤ cnt (λ a. eqb (to a) (falls B T (lap_need ps ds d h.from f) d e e (suc e))) e =
      trace_counts B laws.of-loops T d is-do high (lap_need ps ds d h.from f) (reach_of ps ds d)
      (λ a g w. unseen (reach_of ps ds d) (suffix_of ps ds d h.from f).at e a g w) (lap_set ps ds d h.from f) lead
      e e (start e) (omega arith) (stop_bound B laws.of-loops d is-do) in
      let by_front : length tr ≤ cnt (λ a. eqb (to a) (swept_at f).f) e = rw (swept_is f) few_here in
      omega (arith, by_front, length-append tr (close_step h.upto (swept_at f).f))

  -- laps from a front on: those before the last find only starts that lead beyond it
  laps_few : (j f : ℕ) → d < f → f ≤ suc e →
      length (laps ps ds T lead d h.from h.upto few j f) ≤ cnt (λ a. ltb f (to a)) e + suc e
  unfolding laps
  laps_few zero f u w = omega arith
  laps_few (suc j) f u w = go (is_enough few (end_at f).c) refl (laps_few j (end_at f).f)
    where
      onward : List Step
      onward = laps ps ds T lead d h.from h.upto few j (end_at f).f

      go : (t : Bool) → is_enough few (end_at f).c ≡ t →
          (d < (end_at f).f → (end_at f).f ≤ suc e → length onward ≤ cnt (λ a. ltb (end_at f).f (to a)) e + suc e) →
          length (pick t (steps_at f) (steps_at f ++ onward)) ≤ cnt (λ a. ltb f (to a)) e + suc e
      go true z r =
          omega (
            arith,
            lap-steps f,
            cnt_most (λ a. eqb (to a) (swept_at f).f) e,
            close_one h.upto (swept_at f).f,
          )
      go false z r =
          let far : f < (end_at f).f =
          (lap_worse n key laws fit T table costs h is-do busy kind lead f u w).1 (ltb-false few (end_at f).c z) in
          let o : Open d h.upto (swept_at f) = opens f u far in
          let same : (end_at f).f ≡ (swept_at f).f = ends_open f o in
          let here : length (steps_at f) ≤ cnt (λ a. eqb (to a) (end_at f).f) e + length
          (close_step h.upto (swept_at f).f) =
          rw same (lap-steps f) in
          omega (
            arith,
            here,
            o.none,
            r (omega (arith, u, far)) (omega (arith, same, swept_high f)),
            length-append (steps_at f) onward,
            cnt_parts (λ a. eqb (to a) (end_at f).f) (λ a. ltb (end_at f).f (to a)) (λ a. ltb f (to a)) e
                (λ a. beyond f (end_at f).f (to a) far),
          )

  -- no claim has more steps than twice the gaps up to its ENDDO, and one
  pub head_steps : length (steps_for ps ds T lead h) ≤ e + suc e
  unfolding steps_for
  head_steps =
      let long : d < e = laws.of-loops.long d is-do in
      omega (
        arith,
        laps_few (suc (suc e)) (suc d) (omega arith) (omega (arith, long)),
        cnt_most (λ a. ltb (suc d) (to a)) e,
      )

-- of a key's argument, whatever the paper
pub few_steps : (n : Nest) → is_valid n ≡ true → is_blocked n ≡ false → (k : Claim) → Among k (argument_of n) →
    length k.steps ≤ MOST-STEPS
few_steps n valid unblocked = go (plain_of n valid unblocked)
  where
    plain : (m : Nest) → is_valid m ≡ true → (k : Claim) → Among k (plain_argument m.points m.deps) →
        length k.steps ≤ MOST-STEPS
    plain m valid =
        let v = valid_is m valid in
        let fit : AllFit m.points m.deps = deps_fit m.points m.deps v.all-deps in
        each_claim m.points m.deps (λ k. length k.steps ≤ MOST-STEPS)
        (λ h before l a few.
        (let of = head_of m (plain_key m) (laws m v.shape fit) fit (T m v.shape fit) (table m v.shape fit)
        (costs m v.shape fit) l h a in
        omega (
          arith,
          v.few_points,
          end_there m.points v.shape h.loop of.is-do,
          head_steps m (plain_key m) (laws m v.shape fit) fit (T m v.shape fit) (table m v.shape fit)
              (costs m v.shape fit) h of.is-do of.busy of.kind (lead_in (T m v.shape fit) before),
        )))

    go : PlainOf (argument_of n) → (k : Claim) → Among k (argument_of n) → length k.steps ≤ MOST-STEPS
    go p = rw p.is (plain p.nest p.valid)
