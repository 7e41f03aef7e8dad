-- What a sweep lays, at each boundary: front, body and cuts together are kept by every step, from the claims of the
-- children; so they hold at the loop's DO.
-- Main statements: `Swept`, `Kids`, `put_swept`, `swept`.
use mathlib.Core.Path.{◌≡◌, refl}
use mathlib.Core.Bool.{Bool, true}
use mathlib.Core.Logic.{⊎_elim}
use Prim.Native.Nat.{ℕ, zero, suc, ◌≤◌, ◌<◌}
use native.Mathlib.Omega.{arith}
use Rattle.laws.specs.Choice.{first_of}
use Rattle.laws.proofs.Tests.{le_or, or_left, or_right}
use Rattle.plan_method.specs.Sweep.{Tables, State, only, also, put, step_plain}
use Rattle.plan_method.specs.Sweep.{free, inner, outer, step_child, sweep}
use Rattle.plan_method.proofs.World.{World, EachInside, LoopLaws}
use Rattle.plan_method.proofs.Claim.{Hit, Laid, Claim}
use Rattle.plan_method.proofs.Walk.{plain_cases, child_cases, Free, Inner, Outer, AtPlain, AtChild, along}
use Rattle.plan_method.proofs.Unions.{only_self}
use Rattle.plan_method.proofs.Hits.{hit_wider, hit_more}
use Rattle.plan_method.proofs.Needs.{NeedLaws, Cuts, start_cuts, more_cuts}
use Rattle.plan_method.proofs.AttainedBody.{Part, Body, laid_part, whole_part}
use Rattle.plan_method.proofs.AttainedBody.{start_body, put_body, skip_body, join_body}
use Rattle.plan_method.proofs.AttainedFront.{Foremost, start_front, skip_front, put_front, join_front}
use Rattle.plan_method.proofs.AttainedFront.{bare_front, front_cuts}

-- what is laid down to boundary p
pub record Swept (W : World) (T : Tables) (need : ℕ → ℕ) (d p : ℕ) (s : State) : Type 0 where
  pub front : Foremost (W.loops.stop d) p s.f s.w
  pub body : Body W T d p s.c s.w
  pub cuts : Cuts need (W.loops.stop d) p s.w

-- the claims of the loops directly inside d
abbrev pub Kids : World → Tables → ℕ → Type 0
Kids W T d =
    (l : ℕ) → W.loops.is_do l ≡ true → W.loops.own l ≡ d → d < l → l < W.loops.stop d → Claim W T l

-- which those of all the loops inside d give
pub kids_inside : (W : World) (T : Tables) (d : ℕ)
    → EachInside W.loops d (Claim W T) → Kids W T d
kids_inside W T d all l a b c e = all l record { is-do = a; from = omega arith; below = e } c

module _
    (W : World) (laws : LoopLaws W.loops) (T : Tables) (d : ℕ) (kids : Kids W T d)
    (need : ℕ → ℕ) (needs : NeedLaws W.loops d need) where
  abbrev e : ℕ
  e = W.loops.stop d

  -- the step at an own gap
  pub put_swept : (p : ℕ) (s : State) → AtPlain W.loops d p → Swept W T need d (suc p) s
      → Swept W T need d p (put p s)
  unfolding put
  put_swept p s at i = record { front = put_front at.high i.front; body = body; cuts = cuts }
    where
      w : ℕ → Bool
      w = also (only (suc p)) s.w

      body : Body W T d p (suc s.c) w
      body =
          skip_body W laws T d p (suc s.c) w at.before
          (put_body W laws T d p s.c s.w at.owner at.high i.front.low i.body)

      new : (a : ℕ) → p < a → a ≤ suc p → a ≤ e → need a ≤ e → Hit w a (need a)
      new a h j u v =
          record {
            gap = suc p;
            low = j;
            high = omega (arith, needs.long a (omega (arith, at.low)) u);
            holds = or_left (s.w (suc p)) (only_self (suc p));
          }

      cuts : Cuts need e p w
      cuts = more_cuts (λ g z. or_right (only (suc p) g) z) new i.cuts

  skip_swept : (p : ℕ) (s : State) → AtPlain W.loops d p → Swept W T need d (suc p) s
      → s.f ≤ need (suc p) → Swept W T need d p s
  skip_swept p s at i h =
      record {
        front = skip_front i.front;
        body = skip_body W laws T d p s.c s.w at.before i.body;
        cuts = more_cuts (λ g z. z) new i.cuts;
      }
    where
      new : (a : ℕ) → p < a → a ≤ suc p → a ≤ e → need a ≤ e → Hit s.w a (need a)
      new a l j u v =
          let z : a ≡ suc p = omega arith in
          front_cuts i.front (omega arith) (rw z h) v

  plain_swept : (p : ℕ) (s : State) → AtPlain W.loops d p → Swept W T need d (suc p) s
      → Swept W T need d p (step_plain need p s)
  plain_swept p s at i =
      plain_cases (Swept W T need d p) need p s (λ h. put_swept p s at i) (skip_swept p s at i)

  -- the step over a child
  module _ (p l : ℕ) (s : State) (at : AtChild W.loops d p l) (i : Swept W T need d (suc p) s) where
    claim : Claim W T l
    claim = kids l at.child.is-do at.child.owner at.child.below (omega (arith, at.short, at.high))

    front_here : Foremost e p s.f s.w
    front_here = skip_front i.front

    low : (g : ℕ) → s.w g ≡ true → p < g
    low = front_here.low

    laid : (b : ℕ) → l < b → b ≤ p → 0 < T.left l b → Laid W T l b (T.lay l b)
    laid b h j k = claim.attained b h (omega (arith, at.child.ends)) k

    none : T.left l (suc l) ≡ 0 → (g : ℕ) → T.lay l (suc l) g ≡ true → ⊥
    none h = claim.blank (suc l) (omega arith) (omega (arith, at.short, at.child.ends)) h

    -- what is laid for the child where no line asks more
    whole : Part W T l (T.lay l (suc l))
    whole = whole_part W T l (omega (arith, at.short, at.child.ends)) claim

    -- the front with what is laid for the child
    laid_front : (b f : ℕ) (w : ℕ → Bool) → l < b → b ≤ p → 0 < T.left l b → Foremost e p f w
        → Foremost e l (T.left l b) (also (T.lay l b) w)
    laid_front b f w h j k m =
        let y : Laid W T l b (T.lay l b) = laid b h j k in
        let x : Foremost p l (T.left l b) (T.lay l b) = record {
          low = y.low;
          high = λ g z. omega (arith, y.high g z, at.child.ends);
          first = y.first;
          holds = λ z. y.holds;
        } in
        join_front (omega (arith, at.high)) (omega (arith, at.short)) x y.holds m

    child_front : (f : ℕ) (w : ℕ → Bool) → Foremost e p f w
        → Foremost e l (first_of (T.left l (suc l)) f) (also (T.lay l (suc l)) w)
    child_front f w k = go (T.left l (suc l)) refl
      where
        go : (t : ℕ) → T.left l (suc l) ≡ t → Foremost e l (first_of t f) (also (T.lay l (suc l)) w)
        go zero z = bare_front (omega (arith, at.short)) (none z) k
        go (suc t) z = rw z at (laid_front (suc l) f w (omega arith) at.short (omega arith) k)

    -- the front cuts a line that starts up to the child's end
    still_cut : (a : ℕ) → a ≤ suc p → s.f ≤ need a → need a ≤ e → Hit s.w a (need a)
    still_cut a j h v = front_cuts i.front (omega arith) h v

    free_swept : Free need s.f l p → Swept W T need d l (free (T.left l) (T.lay l) l s)
    unfolding free
    free_swept k =
        record {
          front = child_front s.f s.w front_here;
          body = join_body W laws T d p l s.c (T.lay l (suc l)) s.w at.child whole low i.body;
          cuts = more_cuts more (λ a h j u v. hit_more more (still_cut a j (k.above a h j) v)) i.cuts;
        }
      where
        more : (g : ℕ) → s.w g ≡ true → also (T.lay l (suc l)) s.w g ≡ true
        more g z = or_right (T.lay l (suc l) g) z

    inner_swept : (b : ℕ) → Inner need (T.left l) s.f l p b
        → Swept W T need d l (inner (T.left l) (T.lay l) b s)
    unfolding inner
    inner_swept b k =
        record {
          front = laid_front b s.f s.w k.low k.high k.there front_here;
          body = join_body W laws T d p l s.c (T.lay l b) s.w at.child part low i.body;
          cuts = more_cuts more new i.cuts;
        }
      where
        own : Laid W T l b (T.lay l b)
        own = laid b k.low k.high k.there

        part : Part W T l (T.lay l b)
        part = laid_part W T l b (T.lay l b) own

        more : (g : ℕ) → s.w g ≡ true → also (T.lay l b) s.w g ≡ true
        more g z = or_right (T.lay l b g) z

        -- a line from b or before is cut in the child, a later one by the front
        behind : (a : ℕ) → l < a → a ≤ b → W.loops.stop l ≤ need a
        behind a h z =
            omega (arith, at.child.ends, needs.leaves a p l at.child at.high h (omega (arith, k.high)))

        new : (a : ℕ) → l < a → a ≤ suc p → a ≤ e → need a ≤ e → Hit (also (T.lay l b) s.w) a (need a)
        new a h j u v =
            ⊎_elim
            (λ (z : a ≤ b). hit_more (λ g m. or_left (s.w g) m) (hit_wider z (behind a h z) own.hit))
            (λ (z : b < a). hit_more more (still_cut a j (k.above a h j z) v))
            (le_or a b)

    outer_swept : (b : ℕ) → Outer need (T.left l) s.f l p b
        → Swept W T need d l (outer (T.left l) (T.lay l) l p s)
    unfolding outer
    outer_swept b k =
        record {
          front = child_front (suc p) w front;
          body = join_body W laws T d p l (suc s.c) (T.lay l (suc l)) w at.child whole front.low body;
          cuts = more_cuts (λ g z. or_right (T.lay l (suc l) g) (or_right (only (suc p) g) z)) new i.cuts;
        }
      where
        w : ℕ → Bool
        w = also (only (suc p)) s.w

        front : Foremost e p (suc p) w
        front = put_front at.high i.front

        body : Body W T d (suc p) (suc s.c) w
        body = put_body W laws T d p s.c s.w at.owner at.high i.front.low i.body

        -- no line that starts up to here ends before the gap after the child
        late : (a : ℕ) → l < a → a ≤ suc p → a ≤ e → suc p ≤ need a
        late a h j u =
            ⊎_elim
            (λ (z : a ≤ p). needs.leaves a p l at.child at.high h z)
            (λ (z : p < a). omega (arith, needs.long a (omega (arith, at.child.below)) u))
            (le_or a p)

        new : (a : ℕ) → l < a → a ≤ suc p → a ≤ e → need a ≤ e → Hit (also (T.lay l (suc l)) w) a (need a)
        new a h j u v =
            record {
              gap = suc p;
              low = j;
              high = late a h j u;
              holds = or_right (T.lay l (suc l) (suc p)) (or_left (s.w (suc p)) (only_self (suc p)));
            }

    child_swept : Swept W T need d l (step_child need (T.left l) (T.lay l) l p s)
    child_swept = child_cases (Swept W T need d l) need (T.left l) (T.lay l) l p s free_swept inner_swept outer_swept

  pub swept : W.loops.is_do d ≡ true → Swept W T need d d (sweep W.loops T need d)
  swept is-do =
      along W.loops laws T need d is-do (Swept W T need d) plain_swept child_swept
      record { front = start_front e; body = start_body W laws T d; cuts = start_cuts need e }
