-- The row of a loop: the fronts chosen from its values where there is something to cut, 0 where there is nothing.
-- Main definition: `Values`. Main statements: `values_are`, `made_Some`, `made_none`.
use mathlib.Core.Path.{◌≡◌, refl, sym, ◌∙◌, ap, fun_ext}
use mathlib.Core.Bool.{Bool, true, false, ◌&&◌, ◌||◌}
use mathlib.Core.List.{List}
use Prim.Native.Nat.{ℕ, zero, suc, ◌+◌, ◌-◌, ◌≤◌, ◌<◌}
use native.Mathlib.Omega.{arith}
use lib.Dec.{eqb, ltb, leb}
use lib.ListN.{drop}
use lib.Seq.{get_or-drop}
use borrow.Author.Tests.{lt-ltb, le-ltb, ltb-false}
use Rattle.laws.specs.Choice.{pick}
use Rattle.laws.specs.Entries.{at}
use Rattle.plan_method.specs.Sweep.{Loops, Lines, Tables, State, Front, bare, front, better, best, need_of, sweep, value}
use Rattle.plan_method.specs.Sweep.{least, some_of, cost_of}
use Rattle.plan_method.specs.Sweep.{front_of, left_of, choice_of}
use Rattle.plan_sweeps.specs.Listed.{row, listed, tabled}
use Rattle.plan_starts.specs.Started.{Marked, StartsSay}
use Rattle.plan_rows.specs.Valued.{lined, value_of, ValuesSay, ClosedSays, FrontsIn}
use Rattle.plan_starts.specs.Grounds.{Within, Kept}
use Rattle.plan_rows.specs.Made.{Cleared, ChooseSays, Chosen, RowRoom, RowMade}

-- a chosen front is one of the fronts, or 0
within_none : (d e : ℕ) → Within d e 0
within_none d e = record { low = λ z. absurd (omega arith); high = omega arith }

better_within : (d e c q : ℕ) (v : State) (r : Front) → Within d e v.f → Within d e r.f →
    Within d e (better c q v r).f
unfolding better
better_within d e c q v r a b = go (eqb v.c c && (eqb r.f 0 || leb v.f r.f))
  where
    go : (t : Bool) → Within d e (pick t (front v.f q) r).f
    go true = a
    go false = b

best_within
    : (v : ℕ → State) (c d e : ℕ) → ((q : ℕ) → d < q → q ≤ e → Within d e (v q).f) → (k q : ℕ) → d < q
    → Within d e (best v c e k q).f
unfolding best
best_within v c d e w zero q h = within_none d e
best_within v c d e w (suc k) q h =
    go (ltb e q) refl (best v c e k (suc q)) (best_within v c d e w k (suc q) (omega arith))
  where
    go : (t : Bool) → ltb e q ≡ t → (r : Front) → Within d e r.f →
        Within d e (pick t (front 0 0) (better c q (v q) r)).f
    go true z r i = within_none d e
    go false z r i = better_within d e c q (v q) r (w q h (ltb-false e q z)) i

front_some
    : (B : Loops) (N : Lines) (T : Tables) (d q m : ℕ) → some_of B N T d ≡ true → m ≡
    least (λ q. (value B N T d q).c) d (B.stop d)
    → front_of B N T d q ≡ best (value B N T d) m (B.stop d) (suc (B.stop d)) q
unfolding front_of cost_of
front_some B N T d q m s e = rw (s, e)

front_none : (B : Loops) (N : Lines) (T : Tables) (d q : ℕ) → some_of B N T d ≡ false → front_of B N T d q ≡ front 0 0
unfolding front_of
front_none B N T d q s = rw s

left_front : (B : Loops) (N : Lines) (T : Tables) (d q : ℕ) → left_of B N T d q ≡ (front_of B N T d q).f
unfolding left_of
left_front B N T d q = refl

choice_front : (B : Loops) (N : Lines) (T : Tables) (d q : ℕ) → choice_of B N T d q ≡ (front_of B N T d q).at
unfolding choice_of
choice_front B N T d q = refl

-- the values of a loop stand in two lists, the least number of barriers is m, and the fronts lie in its range
pub record Values (ps own reach limit left : List ℕ) (base d e : ℕ) (cs fs : List ℕ) (m : ℕ) : Type 0 where
  pub values : ValuesSay ps own (drop base reach) left (base - 256) limit base d e e cs fs m
  pub fronts : FrontsIn d e fs e

module _
    {ps own reach limit left choice : List ℕ} {base d e : ℕ} (room : RowRoom ps own reach limit left choice base d e)
  where
    -- the values that stand in two lists are those of the loop
    pub values_are
        : {need cs₀ fs₀ cs fs : List ℕ} {first m : ℕ}
        → StartsSay ps own need left (base - 256) d e cs₀ fs₀ first
        → Marked ps own (row reach base) left (base - 256) d e need
        → ClosedSays limit base d e first cs₀ fs₀ cs fs e m
        → FrontsIn d e fs e
        → Values ps own reach limit left base d e cs fs m
    unfolding value
    values_are starts mark closed fronts =
        record {
          values = λ has lay.
              let same : row reach base ≡ at (drop base reach) = fun_ext (λ a. sym (get_or-drop base reach a 0)) in
              let s = starts.started (at (drop base reach)) lay (rw same at mark) in
              closed (λ q. sweep (listed ps own e) (tabled left (base - 256) lay) (need_of (at (drop base reach)) q e) d)
              s.c_is s.f_is;
          fronts = fronts;
        }

    abbrev need : List ℕ
    need = drop base reach

    pub made_Some
        : {cs fs left' choice' : List ℕ} {m some : ℕ}
        → 0 < some
        → Values ps own reach limit left base d e cs fs m
        → ChooseSays cs fs m left' choice' base d e
        → Kept left left' (base + d) (base + e)
        → Kept choice choice' (base + d) (base + e)
        → RowMade ps own reach limit left choice left' choice' base d e some
    made_Some {cs} {fs} {left'} {choice'} {m} {some} h u chosen left_kept choice_kept =
        record {
          need = need;
          need_is = λ a i j. get_or-drop base reach a 0;
          left_is = λ has lay s q i j. (c has lay).left_is q i j ∙ ap (λ (r : Front). r.f) (sym (f has lay s q)) ∙
              sym (left_front (listed ps own e) (lined has need limit base) (tabled left (base - 256) lay) d q);
          choice_is = λ has lay s q i j. (c has lay).choice_is q i j ∙
              ap (λ (r : Front). r.at) (sym (f has lay s q)) ∙
              sym (choice_front (listed ps own e) (lined has need limit base) (tabled left (base - 256) lay) d q);
          within = λ q i j. rw ((c false none).left_is q i j) (best_within (v false none) m d e inside (suc e) q i);
          left_kept = left_kept;
          choice_kept = choice_kept;
        }
      where
        none : ℕ → ℕ → ℕ → Bool
        none l q = bare

        v : (has : Bool) (lay : ℕ → ℕ → ℕ → Bool) → ℕ → State
        v has lay = value_of ps own need left (base - 256) limit base has lay d e

        inside : (q : ℕ) → d < q → q ≤ e → Within d e (v false none q).f
        inside q i j =
            let z : at fs q ≡ (v false none q).f = (u.values false none).f_at q i j in
            record {
              low = λ _. omega (arith, z, u.fronts.low q i j);
              high = omega (arith, z, u.fronts.high q i j);
            }

        c : (has : Bool) (lay : ℕ → ℕ → ℕ → Bool) →
            Chosen (value_of ps own need left (base - 256) limit base has lay d e) m left' choice' base d e
        c has lay = chosen (value_of ps own need left (base - 256) limit base has lay d e) (u.values has lay).c_at
            (u.values has lay).f_at

        f
            : (has : Bool) (lay : ℕ → ℕ → ℕ → Bool) →
            some_of (listed ps own e) (lined has need limit base) (tabled left (base - 256) lay) d ≡ ltb 0 some →
            (q : ℕ)
            → front_of (listed ps own e) (lined has need limit base) (tabled left (base - 256) lay) d q ≡
            best (value_of ps own need left (base - 256) limit base has lay d e) m e (suc e) q
        f has lay s q = front_some (listed ps own e) (lined has need limit base) (tabled left (base - 256) lay) d q m
            (s ∙ lt-ltb 0 some h) ((u.values has lay).least_is room.long)

    pub made_none
        : {left' choice' : List ℕ} {some : ℕ}
        → some ≡ 0
        → Cleared left left' base d e
        → Cleared choice choice' base d e
        → RowMade ps own reach limit left choice left' choice' base d e some
    made_none {some = some} z l c =
        record {
          need = need;
          need_is = λ a i j. get_or-drop base reach a 0;
          left_is = λ has lay s q i j. l.zero_at q i j ∙ ap (λ (r : Front). r.f) (sym (f has lay s q)) ∙
              sym (left_front (listed ps own e) (lined has need limit base) (tabled left (base - 256) lay) d q);
          choice_is = λ has lay s q i j. c.zero_at q i j ∙ ap (λ (r : Front). r.at) (sym (f has lay s q)) ∙
              sym (choice_front (listed ps own e) (lined has need limit base) (tabled left (base - 256) lay) d q);
          within = λ q i j. rw (l.zero_at q i j) (within_none d e);
          left_kept = l.kept;
          choice_kept = c.kept;
        }
      where
        f
            : (has : Bool) (lay : ℕ → ℕ → ℕ → Bool) →
            some_of (listed ps own e) (lined has need limit base) (tabled left (base - 256) lay) d ≡ ltb 0 some →
            (q : ℕ) → front_of (listed ps own e) (lined has need limit base) (tabled left (base - 256) lay) d q ≡
            front 0 0
        f has lay s q = front_none (listed ps own e) (lined has need limit base) (tabled left (base - 256) lay) d q
            (s ∙ le-ltb 0 some (omega arith))
