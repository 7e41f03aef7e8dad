-- What the table lays for a loop d and a place q is first in list order among the placements that are best in d and
-- have a gap from q on; by induction from the inside. So what is laid for a loop is first among all that are sound
-- there with the same counts.
-- Main statements: `first`, `laid_first`, `computed_first`.
use mathlib.Core.Path.{◌≡◌, sym, ◌∙◌}
use mathlib.Core.Bool.{Bool, true, false}
use mathlib.Core.Logic.{◌⊎◌, inl, inr}
use Prim.Native.Nat.{ℕ, zero, suc, ◌≤◌, ◌<◌}
use native.Mathlib.Omega.{arith}
use Rattle.laws.proofs.Tests.{le_or}
use Rattle.plan_method.specs.Sweep.{Loops, Lines, Tables, State, put, sweep, need_of, value, IsTable}
use Rattle.plan_method.specs.Plan.{table_of, key_of}
use Rattle.plan_method.proofs.World.{World, Inside, EachInside, LoopLaws, Lawful}
use Rattle.plan_method.proofs.Inside.{inside_self, from_inside, first_own}
use Rattle.plan_method.proofs.Counts.{cnt, cnt_none}
use Rattle.plan_method.proofs.Claim.{Hit, mine_of, count, Sound, Settled, Best, Laid, Leads, Claim}
use Rattle.plan_method.proofs.Walk.{close_cases}
use Rattle.plan_method.proofs.Rows.{row_lay, row_there}
use Rattle.plan_method.proofs.Exchange.{mine_other}
use Rattle.plan_method.proofs.Needs.{Cuts}
use Rattle.plan_method.proofs.Ring.{limit_low}
use Rattle.plan_method.proofs.Bounds.{meets}
use Rattle.plan_method.proofs.Tables.{table_is}
use Rattle.plan_method.proofs.Theorem.{claim, laid}
use Rattle.plan_method.proofs.FirstPlaces.{NotAfter}
use Rattle.plan_method.proofs.FirstSweep.{First, Runs, runs, runs_above, put_first}
use Rattle.plan_method.proofs.FirstChoice.{choice_hit}

-- no own gap of d up to d's DO
none_before : (B : Loops) → LoopLaws B → (x : ℕ → Bool) (d : ℕ) → cnt (mine_of B x d) d ≡ 0
none_before B laws x d = cnt_none (mine_of B x d) d go
  where
    go : (g : ℕ) → 0 < g → g ≤ d → mine_of B x d g ≡ false
    go zero a b = absurd (omega arith)
    go (suc g) a b = mine_other B x d (suc g) (λ z. omega (arith, laws.own_below g))

module _ (W : World) (N : Lines) (laws : Lawful W N) (T : Tables) (table : IsTable W.loops N T) where
  -- one loop, from the loops inside
  module _
      (d : ℕ) (is-do : W.loops.is_do d ≡ true)
      (firsts : EachInside W.loops d (First W T)) where
    abbrev e : ℕ
    e = W.loops.stop d

    kids : EachInside W.loops d (Claim W T)
    kids l i h = claim W N laws T table l i.is-do

    -- the value for a suffix that x cuts with as many own gaps: a gap right after the DO closes the prefix, or none
    value_first : (x : ℕ → Bool) (q : ℕ) → Settled W T.cost x d → d < q → q ≤ e → Hit x q e →
        (value W.loops N T d q).c ≡ count W.loops x d → NotAfter (value W.loops N T d q).w x d e
    unfolding value put
    value_first x q settled low high hit =
        close_cases (λ v. v.c ≡ count W.loops x d → NotAfter v.w x d e) d (N.limit d q) s
        (λ z c. (runs W laws.of-loops T d is-do kids firsts need x settled hits).first (omega (arith, none)))
        (λ z c. put_first W x d d s (first_own W.loops laws.of-loops d is-do)
        (stands z) (omega (arith, none)))
      where
        need : ℕ → ℕ
        need = need_of (N.reach d) q e

        s : State
        s = sweep W.loops T need d

        hits : Cuts need e d x
        hits = meets W N laws T table d is-do kids x q settled hit

        none : cnt (mine_of W.loops x d) d ≡ 0
        none = none_before W.loops laws.of-loops x d

        stands : N.limit d q < s.f → Runs W x d (suc d) s
        stands z =
            runs_above W laws.of-loops T d is-do kids firsts need x settled hits
            (omega (arith, limit_low W N laws d is-do q low high))

    module _ (x : ℕ → Bool) (q : ℕ) (best : Best W T.cost x d) (low : d < q) (hit : Hit x q e) where
      inside : q ≤ e
      inside = omega (arith, hit.low, hit.high)

      leads : Leads W T d q x
      leads = (claim W N laws T table d is-do).leftmost x q best low hit

      place : Laid W T d q (T.lay d q)
      place = (claim W N laws T table d is-do).attained q low inside leads.there

      same : (g : ℕ) → T.lay d q g ≡ (value W.loops N T d (T.choice d q)).w g
      same g = row_lay W.loops laws.of-loops N T table d is-do q g low inside leads.there

      -- x starts at the table's front
      chosen : x (T.left d q) ≡ true → NotAfter (value W.loops N T d (T.choice d q)).w x d e
      chosen h =
          let l : d < T.left d q = place.low (T.left d q) place.holds in
          let m : T.left d q ≤ e = place.high (T.left d q) place.holds in
          let k : Hit x (T.choice d q) e =
          choice_hit W N laws T table d is-do kids x q best low hit leads.there l m h in
          let r = row_there W.loops laws.of-loops N T table d is-do q low inside leads.there in
          value_first x (T.choice d q) best.settled (omega (arith, r.low leads.there))
          (r.high leads.there) k (r.exact leads.there ∙ sym best.exact)

      lay_first : NotAfter (T.lay d q) x d e
      lay_first = record { at = λ g a b agree h. go g a b agree h (le_or g (T.left d q)) }
        where
          go : (g : ℕ) → d < g → g ≤ e → ((h : ℕ) → d < h → h < g → x h ≡ T.lay d q h) → x g ≡ true →
              (g ≤ T.left d q) ⊎ (T.left d q < g) → T.lay d q g ≡ true
          go g a b agree h (inl z) =
              let y : g ≡ T.left d q = omega (arith, leads.least g a b h) in
              rw y place.holds
          go g a b agree h (inr z) =
              let l : d < T.left d q = place.low (T.left d q) place.holds in
              same g ∙ (chosen (agree (T.left d q) l z ∙ place.holds)).at g a b (λ m i j. agree m i j ∙ same m) h

    first_from : First W T d
    first_from = record { first = lay_first }

  pub first : (d : ℕ) → W.loops.is_do d ≡ true → First W T d
  first = from_inside W.loops laws.of-loops (First W T) first_from

  -- what is laid for d is first among the placements that are sound at d with the same counts
  pub laid_first : (d : ℕ) → W.loops.is_do d ≡ true → (y : ℕ → Bool) → Sound W y d →
      ((l : ℕ) → Inside W.loops d l → count W.loops y l ≡ count W.loops (T.lay d (suc d)) l) →
      NotAfter (T.lay d (suc d)) y d (W.loops.stop d)
  laid_first d is-do y sound same =
      record {
        at = λ g a b agree h. ((first d is-do).first y (suc d) best (omega arith)
            record { gap = g; low = a; high = b; holds = h }).at g a b agree h;
      }
    where
      exact : (l : ℕ) → Inside W.loops d l → count W.loops y l ≡ T.cost l
      exact l i = same l i ∙ ((laid W N laws T table d is-do).done l i).exact

      best : Best W T.cost y d
      best = record {
        settled = record { sound = sound; inside = λ l i j. exact l i };
        exact = exact d (inside_self W.loops laws.of-loops d is-do);
      }

-- the computed key, of a nest of n points whose outermost loop is 0
pub computed_first : (W : World) (N : Lines) → Lawful W N → (n : ℕ) → W.loops.is_do 0 ≡ true →
    ((d : ℕ) → W.loops.is_do d ≡ true → d < n) → (y : ℕ → Bool) → Sound W y 0 →
    ((l : ℕ) → Inside W.loops 0 l → count W.loops y l ≡ count W.loops (key_of W.loops N n) l) →
    NotAfter (key_of W.loops N n) y 0 (W.loops.stop 0)
unfolding key_of
computed_first W N laws n outermost below y sound same =
    let table = table_is W.loops laws.of-loops N n below in
    laid_first W N laws (table_of W.loops N n) table 0 outermost y sound same
