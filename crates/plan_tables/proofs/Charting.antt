-- The pass over the points from left to right: the loop of the gap here is the DO just passed, the loop around the one
-- that just ended, or the same as before.
-- Main definition: `Charting`, what a turn keeps. Main statements: `chart_start`, `on_do`, `on_end`, `on_plain`,
-- `chart_done`.
use mathlib.Core.Path.{◌≡◌, refl, sym, ap, ◌∙◌}
use mathlib.Core.Bool.{true, false}
use mathlib.Core.List.{List}
use mathlib.Core.Logic.{⊎_elim}
use Prim.Native.Nat.{ℕ, suc, ◌+◌, ◌-◌, ◌≤◌, ◌<◌}
use native.Mathlib.Numerals.{add-one}
use native.Mathlib.Omega.{arith}
use lib.ListN.{length, get_or, set, length-set}
use borrow.Author.Tests.{eq-eqb, ne_eqb}
use Rattle.laws.specs.Entries.{at}
use Rattle.laws.proofs.Tests.{never_both, eq_or, le_or}
use Rattle.paper_nests.specs.Kinds.{POINTS, DEPTH}
use Rattle.paper_nests.specs.Loops.{is_do, is_end, end_of, owner_of}
use Rattle.paper_nests.proofs.Levels.{lev, lev_zero, lev_up, lev_falls, lev_same, lev_deep, end_not_first}
use Rattle.paper_nests.proofs.Loops.{owner_at_most, owner_below, end_has_do, owner_of_end, end_is_end, end_there}
use Rattle.paper_nests.proofs.Loops.{end-after}
use Rattle.paper_nests.proofs.Gaps.{owner_after_do, owner_after_end, owner_after_plain}
use Rattle.plan_tables.specs.Charts.{Points, Charted, ChartRoom, Unowned}
use Rattle.plan_tables.proofs.Entries.{entry_here, entry_elsewhere, entries_more}

-- at the point i: its loop o, and the height h of a loop that would start here
pub record Charting (ps : List ℕ) (i o h : ℕ) (own ends heights : List ℕ) : Type 0 where
  pub here : i ≤ length ps
  pub low : o ≤ i
  pub height_is : h + lev ps i ≡ DEPTH
  pub owner_is : i < length ps → o ≡ owner_of ps i
  pub own_is : (g : ℕ) → g < i → at own g ≡ owner_of ps g
  pub own_rest : (g : ℕ) → i ≤ g → at own g ≡ 0
  pub ends_are : (d : ℕ) → is_do ps d ≡ true → end_of ps d < i → at ends d ≡ end_of ps d
  pub heights_are : (d : ℕ) → is_do ps d ≡ true → d < i → at heights d + lev ps d ≡ DEPTH
  pub room : ChartRoom own ends heights

pub chart_start :
    {ps own ends heights : List ℕ} → ChartRoom own ends heights → Unowned own →
    Charting ps 0 0 DEPTH own ends heights
chart_start {ps} r z =
    record {
      here = omega arith;
      low = omega arith;
      height_is = omega (arith, lev_zero ps);
      owner_is = λ l. refl;
      own_is = λ g l. absurd (omega arith);
      own_rest = λ g l. z g;
      ends_are = λ d h l. absurd (omega arith);
      heights_are = λ d h l. absurd (omega arith);
      room = r;
    }

pub chart_done :
    {ps : List ℕ} {i o h : ℕ} {own ends heights : List ℕ} → Points ps →
    Charting ps i o h own ends heights → length ps ≤ i → Charted ps own ends heights
unfolding lev
chart_done {ps} {i} {own = own} w p l =
    record {
      own_is = λ g m. p.own_is g (omega arith);
      own_low = low;
      ends_are = λ d k. p.ends_are d k (omega (arith, end_there ps w.shape d k));
      heights_are = λ d k. p.heights_are d k (omega (arith, end_there ps w.shape d k, end-after ps w.shape d k));
    }
  where
    low : (g : ℕ) → at own g ≤ g
    low g = ⊎_elim
        (λ (z : suc g ≤ i). omega (arith, p.own_is g z, owner_at_most ps g))
        (λ (z : i < suc g). omega (arith, p.own_rest g (omega arith)))
        (le_or (suc g) i)

module _
    {ps : List ℕ} (w : Points ps) {i o h : ℕ} {own ends heights : List ℕ} (p : Charting ps i o h own ends heights)
    (l : i < length ps)
  where
    -- one more gap's loop noted
    own_more : (g : ℕ) → g < i + 1 → at (set own i o) g ≡ owner_of ps g
    own_more =
        entries_more own i o (λ g x. x ≡ owner_of ps g) (omega (arith, w.few, p.room.own_room)) p.own_is
        (p.owner_is l)

    own_after : (g : ℕ) → i + 1 ≤ g → at (set own i o) g ≡ 0
    own_after g m = entry_elsewhere own i o g (λ e. omega arith) ∙ p.own_rest g (omega arith)

    own_fits : POINTS ≤ length (set own i o)
    own_fits = omega (arith, length-set own i o, p.room.own_room)

    -- a loop that ends up to here ended before, unless the point is its ENDDO
    ended_before : is_end ps i ≡ false → (d : ℕ) → is_do ps d ≡ true → end_of ps d < i + 1 → end_of ps d < i
    ended_before e d k m = ⊎_elim
        (λ (z : end_of ps d ≡ i). never_both (rw z at (end_is_end ps w.shape d k)) e)
        (λ (z : end_of ps d ≡ i → ⊥). omega arith)
        (eq_or (end_of ps d) i)

    pub height_there : get_or ps i 0 ≡ 1 → 1 ≤ h
    height_there k =
        let u = lev_up ps i (eq-eqb (get_or ps i 0) 1 k) in
        omega (arith, p.height_is, lev_deep ps w.shape (suc i))

    pub on_do : get_or ps i 0 ≡ 1 → Charting ps (i + 1) i (h - 1) (set own i o) ends (set heights i h)
    on_do k =
        record {
          here = omega arith;
          low = omega arith;
          height_is = rw add-one (omega (arith, p.height_is, u, height_there k));
          owner_is = λ m. rw add-one (sym (owner_after_do ps w.shape i is-do));
          own_is = own_more;
          own_rest = own_after;
          ends_are = λ d a m. p.ends_are d a (ended_before flat d a m);
          heights_are = λ d a m. heights_more d m a;
          room =
              record {
                own_room = own_fits;
                ends_room = p.room.ends_room;
                heights_room = omega (arith, length-set heights i h, p.room.heights_room);
              };
        }
      where
        is-do : is_do ps i ≡ true
        is-do = eq-eqb (get_or ps i 0) 1 k

        flat : is_end ps i ≡ false
        flat = rw k

        u : lev ps (suc i) ≡ suc (lev ps i)
        u = lev_up ps i is-do

        heights_more : (d : ℕ) → d < i + 1 → is_do ps d ≡ true → at (set heights i h) d + lev ps d ≡ DEPTH
        heights_more = entries_more heights i h (λ d x. is_do ps d ≡ true → x + lev ps d ≡ DEPTH)
            (omega (arith, w.few, p.room.heights_room)) (λ d m a. p.heights_are d a m) (λ a. p.height_is)

    pub on_plain : (get_or ps i 0 ≡ 1 → ⊥) → (get_or ps i 0 ≡ 2 → ⊥) → Charting ps (i + 1) o h (set own i o) ends heights
    on_plain j k =
        record {
          here = omega arith;
          low = omega (arith, p.low);
          height_is = rw add-one (omega (arith, p.height_is, lev_same ps i no-do no_end));
          owner_is = owner;
          own_is = own_more;
          own_rest = own_after;
          ends_are = λ d a m. p.ends_are d a (ended_before no_end d a m);
          heights_are = heights_same;
          room = record { own_room = own_fits; ends_room = p.room.ends_room; heights_room = p.room.heights_room };
        }
      where
        no-do : is_do ps i ≡ false
        no-do = ne_eqb (get_or ps i 0) 1 j

        no_end : is_end ps i ≡ false
        no_end = ne_eqb (get_or ps i 0) 2 k

        owner : i + 1 < length ps → o ≡ owner_of ps (i + 1)
        owner m = rw add-one (p.owner_is l ∙ sym (owner_after_plain ps w.shape i (omega arith) no-do no_end))

        heights_same : (d : ℕ) → is_do ps d ≡ true → d < i + 1 → at heights d + lev ps d ≡ DEPTH
        heights_same d a m = ⊎_elim
            (λ (z : d ≡ i). never_both (rw z at a) no-do)
            (λ (z : d ≡ i → ⊥). p.heights_are d a (omega arith))
            (eq_or d i)

    pub on_end :
        (get_or ps i 0 ≡ 1 → ⊥) → get_or ps i 0 ≡ 2 →
        Charting ps (i + 1) (at (set own i o) o) (h + 1) (set own i o) (set ends o i) heights
    on_end j k =
        record {
          here = omega arith;
          low = omega (arith, around, owner_at_most ps o, low);
          height_is = rw (add-one i) (omega (arith, p.height_is, lev_falls ps w.shape i is-end));
          owner_is = owner;
          own_is = own_more;
          own_rest = own_after;
          ends_are = ends_more;
          heights_are = heights_same;
          room =
              record {
                own_room = own_fits;
                ends_room = omega (arith, length-set ends o i, p.room.ends_room);
                heights_room = p.room.heights_room;
              };
        }
      where
        is-end : is_end ps i ≡ true
        is-end = eq-eqb (get_or ps i 0) 2 k

        no-do : is_do ps i ≡ false
        no-do = ne_eqb (get_or ps i 0) 1 j

        low : o < i
        low = omega (arith, p.owner_is l, owner_below ps w.shape i (end_not_first ps w.shape i is-end) l)

        ends_here : end_of ps o ≡ i
        ends_here = ap (end_of ps) (p.owner_is l) ∙ end_has_do ps w.shape i is-end

        around : at (set own i o) o ≡ owner_of ps o
        around = entry_elsewhere own i o o (λ e. omega (arith, low)) ∙ p.own_is o low

        owner : i + 1 < length ps → at (set own i o) o ≡ owner_of ps (i + 1)
        owner m =
            rw (add-one i)
            (around ∙ ap (owner_of ps) (p.owner_is l) ∙ sym (owner_after_end ps w.shape i (omega arith) is-end))

        ends_more : (d : ℕ) → is_do ps d ≡ true → end_of ps d < i + 1 → at (set ends o i) d ≡ end_of ps d
        ends_more d a m = ⊎_elim
            (λ (z : end_of ps d ≡ i).
            let y : d ≡ o = sym (owner_of_end ps w.shape d a) ∙ ap (owner_of ps) z ∙ sym (p.owner_is l) in
            rw y (entry_here ends o i (omega (arith, low, w.few, p.room.ends_room)) ∙ sym ends_here))
            (λ (z : end_of ps d ≡ i → ⊥).
            entry_elsewhere ends o i d (λ y. z (ap (end_of ps) y ∙ ends_here)) ∙ p.ends_are d a (omega arith))
            (eq_or (end_of ps d) i)

        heights_same : (d : ℕ) → is_do ps d ≡ true → d < i + 1 → at heights d + lev ps d ≡ DEPTH
        heights_same d a m = ⊎_elim
            (λ (z : d ≡ i). never_both (rw z at a) no-do)
            (λ (z : d ≡ i → ⊥). p.heights_are d a (omega arith))
            (eq_or d i)
