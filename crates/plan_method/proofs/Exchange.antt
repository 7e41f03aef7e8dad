-- The exchange argument: along a sweep of d, a placement x that is settled in d and meets the same needs never has
-- fewer own gaps above the boundary than the sweep, and where it has equally many the sweep's front lies before all of
-- x's gaps. Each step keeps this relation, so it holds at every boundary. Where x has as many own gaps above a child
-- as the sweep and the sweep puts none after the child, x has none there either, and cuts inside the child the lines
-- that the sweep cuts there.
-- Main definition: `Inv`. Main statements: `plain_kept`, `child_kept`, `exchange`, `bar`, `caught`.
use mathlib.Core.Path.{◌≡◌, refl, ◌∙◌}
use mathlib.Core.Bool.{Bool, true, false}
use mathlib.Core.Logic.{◌⊎◌, inl, inr, ⊎_elim}
use Prim.Native.Nat.{ℕ, zero, suc, ◌+◌, ◌≤◌, ◌<◌}
use native.Mathlib.Omega.{arith}
use borrow.Author.Tests.{eq-eqb, ne_eqb}
use Rattle.laws.specs.Choice.{first_of}
use Rattle.laws.proofs.Tests.{test, never_both, le_or, lt_by}
use Rattle.plan_method.specs.Sweep.{Loops, Tables, State, put, step_plain, free, inner, outer, step_child, start}
use Rattle.plan_method.specs.Sweep.{sweep}
use Rattle.plan_method.proofs.World.{World, Inside, EachInside, LoopLaws}
use Rattle.plan_method.proofs.Inside.{inside_trans}
use Rattle.plan_method.proofs.Counts.{cnt, cnt_yes, cnt_skips, cnt_skip}
use Rattle.plan_method.proofs.Claim.{Hit, mine_of, count, Settled, Best, Laid, Leads, Claim}
use Rattle.plan_method.proofs.Needs.{Cuts}
use Rattle.plan_method.proofs.Walk.{plain_cases, child_cases, Free, Inner, Outer, AtPlain, AtChild, along}

-- at boundary p: own gaps, and where the two have equally many the front
pub record Inv (B : Loops) (x : ℕ → Bool) (d p : ℕ) (s : State) : Type 0 where
  pub fits : s.f ≤ suc (B.stop d)
  pub le : s.c + cnt (mine_of B x d) p ≤ count B x d
  pub tight : s.c + cnt (mine_of B x d) p ≡ count B x d → (g : ℕ) → p < g → g ≤ B.stop d → x g ≡ true → s.f ≤ g

pub start_inv : (B : Loops) (x : ℕ → Bool) (d : ℕ) → Inv B x d (B.stop d) (start (B.stop d))
start_inv B x d = record { fits = omega arith; le = omega arith; tight = λ z g a b c. absurd (omega arith) }

-- an own gap counts where x has it; a gap of a loop inside does not
pub mine_own : (B : Loops) (x : ℕ → Bool) (d g : ℕ) → B.own g ≡ d → mine_of B x d g ≡ x g
unfolding mine_of
mine_own B x d g e = rw (eq-eqb (B.own g) d e)

pub mine_other : (B : Loops) (x : ℕ → Bool) (d g : ℕ) → (B.own g ≡ d → ⊥) → mine_of B x d g ≡ false
unfolding mine_of
mine_other B x d g e = rw (ne_eqb (B.own g) d e)

first_le : (l f g : ℕ) → (0 < l → l ≤ g) → (l ≡ 0 → f ≤ g) → first_of l f ≤ g
first_le zero f g h i = i refl
first_le (suc l) f g h i = h (omega arith)

-- what is settled in d is best in every loop inside
pub settled_inside : (W : World) → LoopLaws W.loops → (T : Tables) (x : ℕ → Bool) (d l : ℕ) →
    W.loops.is_do d ≡ true → Settled W T.cost x d → Inside W.loops d l → d < l → Best W T.cost x l
settled_inside W laws T x d l is-do s i h =
    record {
      settled = record {
        sound = record {
          lines = λ m a b j k. s.sound.lines m a b (within m j) k;
          backs = λ m a t j k. s.sound.backs m a t (within m j) k;
        };
        inside = λ m j k. s.inside m (within m j) (omega arith);
      };
      exact = s.inside l i h;
    }
  where
    within : (m : ℕ) → Inside W.loops l m → Inside W.loops d m
    within m j = inside_trans W.loops laws d l m is-do i j

-- a child lies inside
pub child_inside : (B : Loops) (d p l : ℕ) → AtChild B d p l → Inside B d l
child_inside B d p l at =
    record {
      is-do = at.child.is-do;
      from = omega (arith, at.child.below);
      below = omega (arith, at.short, at.high);
    }

module _
    (W : World) (laws : LoopLaws W.loops) (T : Tables) (d : ℕ) (is-do : W.loops.is_do d ≡ true)
    (kids : EachInside W.loops d (Claim W T)) (need : ℕ → ℕ) (x : ℕ → Bool)
    (settled : Settled W T.cost x d) (hits : Cuts need (W.loops.stop d) d x) where
  abbrev e : ℕ
  e = W.loops.stop d

  -- the own gaps of x up to p, and all of them
  abbrev mine : ℕ → ℕ
  mine p = cnt (mine_of W.loops x d) p

  abbrev all : ℕ
  all = count W.loops x d

  with-gap : (p : ℕ) → W.loops.own (suc p) ≡ d → x (suc p) ≡ true → mine (suc p) ≡ suc (mine p)
  with-gap p o h = cnt_yes (mine_of W.loops x d) p (mine_own W.loops x d (suc p) o ∙ h)

  without : (p : ℕ) → W.loops.own (suc p) ≡ d → x (suc p) ≡ false → mine (suc p) ≡ mine p
  without p o h = cnt_skips (mine_of W.loops x d) p (mine_own W.loops x d (suc p) o ∙ h)

  -- a gap above p is right after p, where x has none, or above that
  beyond : (p g : ℕ) → x (suc p) ≡ false → p < g → x g ≡ true → suc p < g
  beyond p g h i k =
      ⊎_elim
      (λ (y : g ≤ suc p). (
      let v : g ≡ suc p = omega arith in
      never_both k (rw v h)))
      (λ (y : suc p < g). y)
      (le_or g (suc p))

  -- the step at an own gap
  put_kept : (p : ℕ) (s : State) → AtPlain W.loops d p → Inv W.loops x d (suc p) s → need (suc p) < s.f →
      Inv W.loops x d p (put p s)
  unfolding put
  put_kept p s at i h =
      record {
        fits = omega (arith, at.high);
        le = ⊎_elim
            (λ (z : x (suc p) ≡ true). omega (arith, with-gap p at.owner z, i.le))
            (λ (z : x (suc p) ≡ false). omega (arith, without p at.owner z, fewer z))
            (test (x (suc p)));
        tight = λ z g a b c. omega arith;
      }
    where
      hit : Hit x (suc p) (need (suc p))
      hit = hits.cut (suc p) (omega (arith, at.low)) (omega (arith, at.high)) (omega (arith, i.fits))

      fewer : x (suc p) ≡ false → s.c + mine (suc p) < all
      fewer z = lt_by (λ y. (
          let b : suc p < hit.gap = beyond p hit.gap z hit.low hit.holds in
          let n : hit.gap ≤ e = omega (arith, hit.high, i.fits) in
          omega (arith, i.tight (omega (arith, i.le)) hit.gap b n hit.holds, hit.high)))

  skip_kept : (p : ℕ) (s : State) → AtPlain W.loops d p → Inv W.loops x d (suc p) s → Inv W.loops x d p s
  skip_kept p s at i = go (test (x (suc p)))
    where
      go : (x (suc p) ≡ true) ⊎ (x (suc p) ≡ false) → Inv W.loops x d p s
      go (inl z) =
          let n : mine (suc p) ≡ suc (mine p) = with-gap p at.owner z in
          record { fits = i.fits; le = omega (arith, i.le); tight = λ y. absurd (omega (arith, i.le)) }
      go (inr z) =
          let n : mine (suc p) ≡ mine p = without p at.owner z in
          record {
            fits = i.fits;
            le = omega (arith, i.le);
            tight = λ y g a b c. i.tight (omega arith) g (beyond p g z a c) b c;
          }

  pub plain_kept : (p : ℕ) (s : State) → AtPlain W.loops d p → Inv W.loops x d (suc p) s →
      Inv W.loops x d p (step_plain need p s)
  plain_kept p s at i =
      plain_cases (Inv W.loops x d p) need p s (put_kept p s at i) (λ h. skip_kept p s at i)

  -- the step over a child
  module _ (p l : ℕ) (s : State) (at : AtChild W.loops d p l) (i : Inv W.loops x d (suc p) s) where
    inside : Inside W.loops d l
    inside = child_inside W.loops d p l at

    claim : Claim W T l
    claim = kids l inside at.child.below

    ends : W.loops.stop l ≡ p
    ends = at.child.ends

    pub best_in_child : Best W T.cost x l
    best_in_child = settled_inside W laws T x d l is-do settled inside at.child.below

    leads : (b : ℕ) → l < b → Hit x b p → Leads W T l b x
    leads b h k = claim.leftmost x b best_in_child h (rw ends k)

    left_high : (b : ℕ) → l < b → b ≤ p → 0 < T.left l b → T.left l b ≤ p
    left_high b h j k =
        let a : Laid W T l b (T.lay l b) = claim.attained b h (omega (arith, ends)) k in
        omega (arith, a.high (T.left l b) a.holds, ends)

    front_high : (g : ℕ) → p ≤ g → T.left l (suc l) ≤ g
    front_high g h =
        ⊎_elim
        (λ (z : T.left l (suc l) ≤ 0). omega arith)
        (λ (z : 0 < T.left l (suc l)). omega (arith, left_high (suc l) (omega arith) at.short z))
        (le_or (T.left l (suc l)) 0)

    -- no own gap of d inside the child
    count_below : mine p ≡ mine l
    count_below =
        cnt_skip (mine_of W.loops x d) l p (omega (arith, at.short))
        (λ g a b. mine_other W.loops x d g (λ z.
        omega (arith, (laws.owner l g at.child.is-do a (omega (arith, ends))).from, at.child.below)))

    pub with-bar : x (suc p) ≡ true → mine (suc p) ≡ suc (mine l)
    with-bar z = omega (arith, with-gap p at.owner z, count_below)

    pub without_bar : x (suc p) ≡ false → mine (suc p) ≡ mine l
    without_bar z = omega (arith, without p at.owner z, count_below)

    level : s.c + mine l ≤ all
    level =
        ⊎_elim
        (λ (z : x (suc p) ≡ true). omega (arith, with-bar z, i.le))
        (λ (z : x (suc p) ≡ false). omega (arith, without_bar z, i.le))
        (test (x (suc p)))

    -- equally many: x has no gap right after the child, and the front lies before all of its gaps above
    pub bar : s.c + mine l ≡ all → x (suc p) ≡ false
    bar z =
        ⊎_elim
        (λ (y : x (suc p) ≡ true). absurd (omega (arith, with-bar y, i.le)))
        (λ (y : x (suc p) ≡ false). y)
        (test (x (suc p)))

    ahead : s.c + mine l ≡ all → (g : ℕ) → p < g → g ≤ e → x g ≡ true → s.f ≤ g
    ahead z g a b c =
        let y : x (suc p) ≡ false = bar z in
        i.tight (omega (arith, without_bar y)) g (beyond p g y a c) b c

    -- so a line that is not cut yet and starts at b is cut inside the child
    pub caught : (b : ℕ) → l < b → b ≤ suc p → need b < s.f → s.c + mine l ≡ all → Hit x b p
    caught b h j u z =
        let k : Hit x b (need b) =
        hits.cut b (omega (arith, at.child.below)) (omega (arith, at.high)) (omega (arith, i.fits)) in
        let m : k.gap ≤ p = ⊎_elim
        (λ (y : k.gap ≤ p). y)
        (λ (y : p < k.gap). (
        let n : k.gap ≤ e = omega (arith, k.high, i.fits) in
        absurd (omega (arith, ahead z k.gap y n k.holds, k.high))))
        (le_or k.gap p) in
        record { gap = k.gap; low = k.low; high = m; holds = k.holds }

    front_le : (f g : ℕ) → l < g → x g ≡ true → (p < g → f ≤ g) → first_of (T.left l (suc l)) f ≤ g
    front_le f g h c k =
        ⊎_elim
        (λ (y : g ≤ p). (
        let v : Leads W T l (suc l) x =
        leads (suc l) (omega arith) record { gap = g; low = h; high = y; holds = c } in
        first_le (T.left l (suc l)) f g
        (λ t. v.least g h (omega (arith, ends)) c) (λ t. absurd (omega (arith, v.there)))))
        (λ (y : p < g). first_le (T.left l (suc l)) f g (λ t. front_high g (omega arith)) (λ t. k y))
        (le_or g p)

    fits_with : (f : ℕ) → f ≤ suc e → first_of (T.left l (suc l)) f ≤ suc e
    fits_with f h =
        first_le (T.left l (suc l)) f (suc e) (λ t. front_high (suc e) (omega (arith, at.high))) (λ t. h)

    free_kept : Free need s.f l p → Inv W.loops x d l (free (T.left l) (T.lay l) l s)
    unfolding free
    free_kept k =
        record {
          fits = fits_with s.f i.fits;
          le = level;
          tight = λ z g a b c. front_le s.f g a c (λ h. ahead z g h b c);
        }

    inner_kept : (b : ℕ) → Inner need (T.left l) s.f l p b →
        Inv W.loops x d l (inner (T.left l) (T.lay l) b s)
    unfolding inner
    inner_kept b k =
        let y : T.left l b ≤ p = left_high b k.low k.high k.there in
        record {
          fits = omega (arith, at.high);
          le = level;
          tight = λ z g a u c. ⊎_elim
              (λ (v : g ≤ p). (
              let h : Hit x b p = caught b k.low (omega (arith, k.high)) k.uncut z in
              (leads b k.low h).least g a (omega (arith, ends)) c))
              (λ (v : p < g). omega arith)
              (le_or g p);
        }

    outer_kept : (b : ℕ) → Outer need (T.left l) s.f l p b →
        Inv W.loops x d l (outer (T.left l) (T.lay l) l p s)
    unfolding outer
    outer_kept b k =
        record {
          fits = fits_with (suc p) (omega (arith, at.high));
          le = ⊎_elim
              (λ (z : x (suc p) ≡ true). omega (arith, with-bar z, i.le))
              (λ (z : x (suc p) ≡ false). omega (arith, level, fewer))
              (test (x (suc p)));
          tight = λ z g a u c. front_le (suc p) g a c (λ h. h);
        }
      where
        fewer : s.c + mine l < all
        fewer = lt_by (λ z. (
            let h : Hit x b p = caught b k.low k.high k.uncut (omega (arith, level)) in
            omega (arith, (leads b k.low h).there, k.lacks (omega (arith, h.low, h.high)))))

    pub child_kept : Inv W.loops x d l (step_child need (T.left l) (T.lay l) l p s)
    child_kept =
        child_cases (Inv W.loops x d l) need (T.left l) (T.lay l) l p s free_kept inner_kept outer_kept

  pub exchange : Inv W.loops x d d (sweep W.loops T need d)
  exchange =
      along W.loops laws T need d is-do (Inv W.loops x d) plain_kept child_kept (start_inv W.loops x d)
