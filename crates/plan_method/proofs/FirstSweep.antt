-- What a sweep lays is not after x in list order, for every placement x that is settled in d, meets the same needs and
-- has as many own gaps as the sweep. At an own gap this is counting: x has none where the sweep puts none. In a child
-- with a barrier after it the sweep lays the first of all placements that are best in the child; in any other, x has no
-- barrier after it either, so it meets in the child the needs that the sweep meets there.
-- Main definitions: `First`, `Runs`. Main statements: `runs`, `runs_above`, `put_first`.
use mathlib.Core.Path.{◌≡◌, refl, ◌∙◌}
use mathlib.Core.Bool.{Bool, true, false}
use mathlib.Core.Logic.{⊎_elim}
use Prim.Native.Nat.{ℕ, suc, ◌+◌, ◌≤◌, ◌<◌}
use native.Mathlib.Omega.{arith}
use Rattle.laws.proofs.Tests.{never, le_or, false_by}
use Rattle.plan_method.specs.Sweep.{Tables, State, only, also, put, step_plain}
use Rattle.plan_method.specs.Sweep.{free, inner, outer, step_child, sweep}
use Rattle.plan_method.proofs.World.{World, EachInside, LoopLaws}
use Rattle.plan_method.proofs.Counts.{cnt, cnt_yes, cnt_skips}
use Rattle.plan_method.proofs.Claim.{Hit, mine_of, count, Settled, Best, Laid, Claim}
use Rattle.plan_method.proofs.Needs.{Cuts}
use Rattle.plan_method.proofs.Walk.{plain_cases, child_cases, Free, Inner, Outer, AtPlain, AtChild, along}
use Rattle.plan_method.proofs.Exchange.{Inv, start_inv, mine_own, child_inside, plain_kept, child_kept}
use Rattle.plan_method.proofs.Exchange.{best_in_child, with-bar, without_bar, bar, caught}
use Rattle.plan_method.proofs.Unions.{only_is, also_by}
use Rattle.plan_method.proofs.FirstPlaces.{NotAfter, skip_before, put_before, join_before}

-- what is laid for d and q is first among the placements that are best in d and have a gap from q on
pub record First (W : World) (T : Tables) (d : ℕ) : Type 0 where
  pub first : (x : ℕ → Bool) (q : ℕ) → Best W T.cost x d → d < q → Hit x q (W.loops.stop d) →
      NotAfter (T.lay d q) x d (W.loops.stop d)

-- at boundary p: the exchange relation, and where x and the sweep have equally many own gaps above p, what is laid is
-- not after x
pub record Runs (W : World) (x : ℕ → Bool) (d p : ℕ) (s : State) : Type 0 where
  pub inv : Inv W.loops x d p s
  pub low : (g : ℕ) → s.w g ≡ true → p < g
  pub first : s.c + cnt (mine_of W.loops x d) p ≡ count W.loops x d →
      NotAfter s.w x p (W.loops.stop d)

-- and where the sweep ends without a gap right after d's DO, it stood the same at the boundary above
record Turns (W : World) (x : ℕ → Bool) (d p : ℕ) (s : State) : Type 0 where
  pub now : Runs W x d p s
  pub before : p ≡ d → suc d < s.f → Runs W x d (suc d) s

-- a gap put right after p, of a sweep that stands at the boundary above
pub put_first : (W : World) (x : ℕ → Bool) (d p : ℕ) (s : State) → W.loops.own (suc p) ≡ d →
    Runs W x d (suc p) s → suc s.c + cnt (mine_of W.loops x d) p ≡ count W.loops x d →
    NotAfter (also (only (suc p)) s.w) x p (W.loops.stop d)
put_first W x d p s own r z =
    put_before r.low (λ h. r.first
    (omega (arith, cnt_yes (mine_of W.loops x d) p (mine_own W.loops x d (suc p) own ∙ h))))

module _
    (W : World) (laws : LoopLaws W.loops) (T : Tables) (d : ℕ) (is-do : W.loops.is_do d ≡ true)
    (kids : EachInside W.loops d (Claim W T)) (firsts : EachInside W.loops d (First W T))
    (need : ℕ → ℕ) (x : ℕ → Bool) (settled : Settled W T.cost x d) (hits : Cuts need (W.loops.stop d) d x) where
  abbrev e : ℕ
  e = W.loops.stop d

  -- the step at an own gap
  module _ (p : ℕ) (s : State) (at : AtPlain W.loops d p) (r : Runs W x d (suc p) s) where
    kept : Inv W.loops x d p (step_plain need p s)
    kept = plain_kept W laws T d is-do kids need x settled hits p s at r.inv

    put_low : (g : ℕ) → (put p s).w g ≡ true → p < g
    unfolding put
    put_low g h =
        also_by (only (suc p)) s.w g h (λ z. omega (arith, only_is (suc p) g z)) (λ z. omega (arith, r.low g z))

    put_runs : Inv W.loops x d p (put p s) → Runs W x d p (put p s)
    unfolding put
    put_runs i = record { inv = i; low = put_low; first = put_first W x d p s at.owner r }

    skip_runs : Inv W.loops x d p s → Runs W x d p s
    skip_runs i =
        record {
          inv = i;
          low = λ g h. omega (arith, r.low g h);
          first = λ z. skip_before (lacks z) (r.first (same z));
        }
      where
        own : mine_of W.loops x d (suc p) ≡ x (suc p)
        own = mine_own W.loops x d (suc p) at.owner

        lacks : s.c + cnt (mine_of W.loops x d) p ≡ count W.loops x d → x (suc p) ≡ false
        lacks z = false_by (λ h. omega (arith, cnt_yes (mine_of W.loops x d) p (own ∙ h), r.inv.le))

        same : s.c + cnt (mine_of W.loops x d) p ≡ count W.loops x d →
            s.c + cnt (mine_of W.loops x d) (suc p) ≡ count W.loops x d
        same z = omega (arith, cnt_skips (mine_of W.loops x d) p (own ∙ lacks z))

    plain_turns : Turns W x d p (step_plain need p s)
    unfolding put
    plain_turns =
        plain_cases (λ t. Inv W.loops x d p t → Turns W x d p t) need p s
        (λ h i. record { now = put_runs i; before = λ z y. absurd (omega arith) })
        (λ h i. record { now = skip_runs i; before = λ z y. rw z at r })
        kept

  -- the step over a child
  module _ (p l : ℕ) (s : State) (at : AtChild W.loops d p l) (r : Runs W x d (suc p) s) where
    abbrev own_gaps : ℕ → ℕ
    own_gaps m = cnt (mine_of W.loops x d) m

    abbrev all : ℕ
    all = count W.loops x d

    ends : W.loops.stop l ≡ p
    ends = at.child.ends

    claim : Claim W T l
    claim = kids l (child_inside W.loops d p l at) at.child.below

    kept_child : Inv W.loops x d l (step_child need (T.left l) (T.lay l) l p s)
    kept_child = child_kept W laws T d is-do kids need x settled hits p l s at r.inv

    -- what is laid for the child lies in it
    laid_inside : (b : ℕ) → l < b → b ≤ p → (g : ℕ) → T.lay l b g ≡ true → (l < g) × (g ≤ p)
    laid_inside b h j g k =
        ⊎_elim
        (λ (z : T.left l b ≤ 0). absurd (claim.blank b h (omega (arith, ends)) (omega arith) g k))
        (λ (z : 0 < T.left l b). (
        let y : Laid W T l b (T.lay l b) = claim.attained b h (omega (arith, ends)) z in
        (y.low g k, omega (arith, y.high g k, ends))))
        (le_or (T.left l b) 0)

    -- x is best in the child, and what is laid there is first
    first_in : (b : ℕ) → l < b → Hit x b p → NotAfter (T.lay l b) x l p
    first_in b h k =
        let y : Best W T.cost x l = best_in_child W laws T d is-do kids need x settled hits p l s at r.inv in
        let f : First W T l = firsts l (child_inside W.loops d p l at) at.child.below in
        let n : NotAfter (T.lay l b) x l (W.loops.stop l) = f.first x b y h (rw ends k) in
        rw ends at n

    first_whole : NotAfter (T.lay l (suc l)) x l p
    first_whole =
        record {
          at = λ g a b same h. (first_in (suc l) (omega arith) record { gap = g; low = a; high = b; holds = h }
              ).at g a b same h;
        }

    -- what is laid for the child, before what is laid above it
    join : (b : ℕ) (w : ℕ → Bool) → l < b → b ≤ p → NotAfter (T.lay l b) x l p → ((g : ℕ) → w g ≡ true → p < g) →
        NotAfter w x p e → NotAfter (also (T.lay l b) w) x l e
    join b w h j f low k = join_before (omega (arith, at.short)) (λ g z. (laid_inside b h j g z).1) low f k

    join_low : (b : ℕ) (w : ℕ → Bool) → l < b → b ≤ p → ((g : ℕ) → w g ≡ true → p < g) →
        (g : ℕ) → also (T.lay l b) w g ≡ true → l < g
    join_low b w h j low g k =
        also_by (T.lay l b) w g k (λ z. (laid_inside b h j g z).0) (λ z. omega (arith, low g z, at.short))

    above : (g : ℕ) → s.w g ≡ true → p < g
    above g h = omega (arith, r.low g h)

    -- no barrier after the child: x has none there
    first_above : s.c + own_gaps l ≡ all → NotAfter s.w x p e
    first_above z =
        let y : x (suc p) ≡ false = bar W laws T d is-do kids need x settled hits p l s at r.inv z in
        let n : own_gaps (suc p) ≡ own_gaps l =
        without_bar W laws T d is-do kids need x settled hits p l s at r.inv y in
        skip_before y (r.first (omega arith))

    free_runs : Free need s.f l p → Inv W.loops x d l (free (T.left l) (T.lay l) l s) →
        Runs W x d l (free (T.left l) (T.lay l) l s)
    unfolding free
    free_runs k i =
        record {
          inv = i;
          low = join_low (suc l) s.w (omega arith) at.short above;
          first = λ z. join (suc l) s.w (omega arith) at.short first_whole above (first_above z);
        }

    inner_runs : (b : ℕ) → Inner need (T.left l) s.f l p b →
        Inv W.loops x d l (inner (T.left l) (T.lay l) b s) → Runs W x d l (inner (T.left l) (T.lay l) b s)
    unfolding inner
    inner_runs b k i =
        record {
          inv = i;
          low = join_low b s.w k.low k.high above;
          first = λ z. (
              let h : Hit x b p = caught W laws T d is-do kids need x settled hits p l s at r.inv
              b k.low (omega (arith, k.high)) k.uncut z in
              join b s.w k.low k.high (first_in b k.low h) above (first_above z));
        }

    outer_runs : (b : ℕ) → Outer need (T.left l) s.f l p b →
        Inv W.loops x d l (outer (T.left l) (T.lay l) l p s) → Runs W x d l (outer (T.left l) (T.lay l) l p s)
    unfolding outer
    outer_runs b k i =
        record {
          inv = i;
          low = join_low (suc l) w (omega arith) at.short low;
          first = λ z. join (suc l) w (omega arith) at.short first_whole low (barrier z);
        }
      where
        w : ℕ → Bool
        w = also (only (suc p)) s.w

        low : (g : ℕ) → w g ≡ true → p < g
        low g h = also_by (only (suc p)) s.w g h (λ z. omega (arith, only_is (suc p) g z)) (above g)

        barrier : suc s.c + own_gaps l ≡ all → NotAfter w x p e
        barrier z =
            put_before r.low (λ h. r.first
            (omega (arith, with-bar W laws T d is-do kids need x settled hits p l s at r.inv h)))

    child_turns : Turns W x d l (step_child need (T.left l) (T.lay l) l p s)
    child_turns =
        record { now = now; before = λ z y. absurd (omega (arith, at.child.below)) }
      where
        now : Runs W x d l (step_child need (T.left l) (T.lay l) l p s)
        now =
            child_cases (λ t. Inv W.loops x d l t → Runs W x d l t) need (T.left l) (T.lay l) l p s
            free_runs inner_runs outer_runs kept_child

  turns : Turns W x d d (sweep W.loops T need d)
  turns =
      along W.loops laws T need d is-do (Turns W x d) (λ p s at i. plain_turns p s at i.now)
      (λ p l s at i. child_turns p l s at i.now)
      record {
        now = record {
          inv = start_inv W.loops x d;
          low = λ g h. never h;
          first = λ z. record { at = λ g a b c. absurd (omega arith) };
        };
        before = λ z. absurd (omega (arith, laws.long d is-do));
      }

  -- at d's DO, and without a gap right after it at the boundary above
  pub runs : Runs W x d d (sweep W.loops T need d)
  runs = turns.now

  pub runs_above : suc d < (sweep W.loops T need d).f → Runs W x d (suc d) (sweep W.loops T need d)
  runs_above = turns.before refl
