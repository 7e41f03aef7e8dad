-- The sweep of every suffix: it starts at the suffix or at the last start with a line in the loop, and goes on as any
-- other, since the suffix ends at the ENDDO and no front lies beyond it.
-- Main statements: `first_open`, `swept`.
use mathlib.Core.Path.{◌≡◌, refl, sym, ◌∙◌, ap}
use mathlib.Core.Bool.{Bool, true, false, ◌&&◌}
use mathlib.Core.List.{List}
use Prim.Native.Nat.{ℕ, zero, suc, ◌≤◌, ◌<◌}
use native.Mathlib.Omega.{arith}
use lib.Dec.{eqb, ltb}
use borrow.Author.Tests.{ltb-true, ltb-false, eq-eqb, ne_eqb}
use Rattle.laws.specs.Choice.{pick}
use Rattle.laws.specs.Entries.{at}
use Rattle.laws.proofs.Choices.{first_set}
use Rattle.paper_nests.specs.Loops.{is_do}
use Rattle.plan_method.specs.Sweep.{start, seek, need_of, sweep}
use Rattle.plan_method.proofs.Walk.{seek_is}
use Rattle.plan_sweeps.specs.Listed.{row, listed, tabled, Low}
use Rattle.plan_starts.specs.Grounds.{Ground}
use Rattle.plan_starts.specs.Started.{marked, Marked, Passed, Event, Followed, Started, later}
use Rattle.plan_starts.proofs.Seeks.{seek_found, seek_alike}
use Rattle.plan_starts.proofs.Passes.{passed_map}
use Rattle.plan_starts.proofs.Ends.{Total, Comes, comes_at, at_do, ends}

-- the suffix lowers one end to the ENDDO at most
need_other : (reach : ℕ → ℕ) (q e a : ℕ) → (a ≡ q → ⊥) → need_of reach q e a ≡ reach a
unfolding need_of
need_other reach q e a h = rw (ne_eqb a q h)

need_late : (reach : ℕ → ℕ) (q e f a : ℕ) → f ≤ e → f ≤ reach a → f ≤ need_of reach q e a
unfolding need_of
need_late reach q e f a h i = go (eqb a q && ltb e (reach a))
  where
    go : (t : Bool) → f ≤ pick t e (reach a)
    go true = h
    go false = i

need_le : (reach : ℕ → ℕ) (q e a : ℕ) → need_of reach q e a ≤ reach a
unfolding need_of
need_le reach q e a = go (eqb a q) (ltb e (reach a)) refl
  where
    go : (t u : Bool) → ltb e (reach a) ≡ u → pick (t && u) e (reach a) ≤ reach a
    go true true z = omega (arith, ltb-true e (reach a) z)
    go true false z = omega arith
    go false true z = omega arith
    go false false z = omega arith

need_here : (reach : ℕ → ℕ) (q e : ℕ) → need_of reach q e q ≤ e
unfolding need_of
need_here reach q e = rw (eq-eqb q q refl) (go (ltb e (reach q)) refl)
  where
    go : (t : Bool) → ltb e (reach q) ≡ t → pick t e (reach q) ≤ e
    go true z = omega arith
    go false z = ltb-false e (reach q) z

pub later_low : (q first : ℕ) → q ≤ later q first
unfolding later
later_low q first = go (ltb q first) refl
  where
    go : (t : Bool) → ltb q first ≡ t → q ≤ pick t first q
    go true z = omega (arith, ltb-true q first z)
    go false z = omega arith

pub later_high : (q first e : ℕ) → q ≤ e → first ≤ e → later q first ≤ e
unfolding later
later_high q first e a b = go (ltb q first)
  where
    go : (t : Bool) → pick t first q ≤ e
    go true = b
    go false = a

module _ (ps own left : List ℕ) (kids d e : ℕ) (reach : ℕ → ℕ) (q : ℕ) where
  abbrev plain : ℕ → ℕ
  plain = marked ps own reach (row left kids) d

  abbrev lowered : ℕ → ℕ
  lowered = marked ps own (need_of reach q e) (row left kids) d

  mark_other : (a : ℕ) → (a ≡ q → ⊥) → lowered a ≡ plain a
  unfolding marked
  mark_other zero h = need_other reach q e 0 h
  mark_other (suc a) h = rw (need_other reach q e (suc a) h) refl

  -- of the two marks either both are 0, or they are the two ends
  mark_both
      : (R : ℕ → ℕ → Type 0) (a : ℕ) → R 0 0 → R (reach a) (need_of reach q e a) → R (plain a) (lowered a)
  unfolding marked
  mark_both R zero x y = y
  mark_both R (suc a) x y = go (ltb d a && (is_do ps a && (eqb (at own a) d && ltb 0 (row left kids (suc a)))))
    where
      go : (t : Bool) → R (pick t 0 (reach (suc a))) (pick t 0 (need_of reach q e (suc a)))
      go true = x
      go false = y

  -- below the ENDDO the suffix changes no search
  pub seek_suffix : (f b : ℕ) → f ≤ e → seek lowered f d b ≡ seek plain f d b
  seek_suffix f b h = seek_alike plain lowered f d b
      (λ y i j. mark_both (λ u v. u < f → v < f) y (λ z. z) (λ z. omega (arith, need_le reach q e y)))
      (λ y i j. mark_both (λ u v. f ≤ u → f ≤ v) y (λ z. z) (λ z. need_late reach q e f y h z))

  -- where the sweep for the suffix starts
  pub first_open : d < q → q ≤ e → seek lowered (suc e) d e ≡ later q (seek plain (suc e) d e)
  unfolding later
  first_open a b = go (ltb q first) refl
    where
      first : ℕ
      first = seek plain (suc e) d e

      -- nothing is open after the last of all
      after : (y : ℕ) → d < y → y ≤ e → first < y → suc e ≤ plain y
      after y i j k = (seek_is plain (suc e) d e).above y i j k

      lower : (y : ℕ) → lowered y ≤ plain y
      lower y = mark_both (λ u v. v ≤ u) y (omega arith) (need_le reach q e y)

      here : lowered q ≤ e
      here = mark_both (λ u v. v ≤ e) q (omega arith) (need_here reach q e)

      other : (y : ℕ) → q < y → first < y → d < y → y ≤ e → suc e ≤ lowered y
      other y i j k l = omega (arith, after y k l j, mark_other y (λ (z : y ≡ q). omega arith))

      go : (t : Bool) → ltb q first ≡ t → seek lowered (suc e) d e ≡ pick t first q
      go true z =
          let h : q < first = ltb-true q first z in
          let s = seek_is plain (suc e) d e in
          seek_found lowered (suc e) d e first (omega arith) s.high
          (omega (arith, lower first, s.uncut (omega arith)))
          (λ y i j k. other y (omega arith) k i j)
      go false z =
          let h : first ≤ q = ltb-false q first z in
          seek_found lowered (suc e) d e q a b (omega (arith, here)) (λ y i j k. other y k (omega arith) i j)

module _ (ps own left : List ℕ) (kids d e : ℕ) (ground : Ground ps own left kids d e) (own_low : Low own)
    (need : List ℕ) (link cs fs cs' fs' : List ℕ)
    (passed : Passed ps own left kids d e (Event (at need) d e cs fs link) d)
    (followed : Followed link cs fs cs' fs' d e e)
    (reach : ℕ → ℕ) (are_marked : Marked ps own reach left kids d e need) where
  -- the list of marks and the marks are searched alike
  seek_list : (f b : ℕ) → b ≤ e → seek (at need) f d b ≡ seek (plain ps own left kids d e reach 0) f d b
  seek_list f b h = seek_alike (plain ps own left kids d e reach 0) (at need) f d b
      (λ y i j z. omega (arith, are_marked y i (omega arith)))
      (λ y i j z. omega (arith, are_marked y i (omega arith)))

  -- what stands in the lists is what is made from each start on, with any suffix
  total : (q b x c f : ℕ) → d ≤ b → b < x → x ≤ e → Event (at need) d e cs fs link b x c f →
      Total (lowered ps own left kids d e reach q) d e (at cs') (at fs') b x c f
  total q b x c f l i j v =
      let z : at link (at fs x) ≡ seek (lowered ps own left kids d e reach q) f d b =
      ap (at link) v.front_is ∙ v.link_is ∙ seek_list f b (omega arith) ∙
      sym (seek_suffix ps own left kids d e reach q f b v.high) in
      record {
        c_is = followed.c_is x (omega arith) j ∙ rw (v.cost_is, z) refl;
        f_is = followed.f_is x (omega arith) j ∙ rw (z, v.front_is) refl;
        low = omega (arith, v.low);
        high = v.high;
      }

  pub swept : (lay : ℕ → ℕ → ℕ → Bool) → Started ps own left kids d e reach cs' fs' (seek (at need) (suc e) d e) lay
  unfolding sweep
  swept lay =
      record {
        c_is = λ q a b. omega (arith, (comes q a b).c_is);
        f_is = λ q a b.
            let x : ℕ = later q (seek (at need) (suc e) d e) in
            let l : d < at fs' x = followed.low x (omega (arith, later_low q (seek (at need) (suc e) d e)))
            (later_high q (seek (at need) (suc e) d e) e b (seek_is (at need) (suc e) d e).high) in
            sym ((comes q a b).f_is ∙ first_set (at fs' x) (suc e) (λ z. omega arith));
      }
    where
      comes
          : (q : ℕ)
          → d < q
          → q ≤ e
          → Comes (at cs') (at fs') (start e) (sweep (listed ps own e) (tabled left kids lay) (need_of reach q e) d)
          (later q (seek (at need) (suc e) d e))
      comes q a b = comes_at (at cs') (at fs') (start e)
          (sweep (listed ps own e) (tabled left kids lay) (need_of reach q e) d)
          (seek (lowered ps own left kids d e reach q) (suc e) d e) (later q (seek (at need) (suc e) d e))
          (first_open ps own left kids d e reach q a b ∙ ap (later q) (sym (seek_list (suc e) e (omega arith))))
          (ends ps own left kids d e ground (need_of reach q e) (at cs') (at fs') followed.c_none followed.f_none
          lay
          d
          (passed_map ps own left kids d e own_low (Event (at need) d e cs fs link)
          (Total (lowered ps own left kids d e reach q) d e (at cs') (at fs')) d (total q) passed)
          (at_do ps own left kids d e ground (need_of reach q e) (at cs') (at fs') followed.c_none
          followed.f_none lay)
          e (start e) (omega arith) (omega arith))
