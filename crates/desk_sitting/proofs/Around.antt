-- The walk back from a gap that finds the loops around it.
-- Main statements: `Walked`, what a turn keeps; `walk_start`, `walk_around`, `walk_over_do`, `walk_over_end`,
-- `walk_over_other`.
use mathlib.Core.Path.{◌≡◌, refl, sym, ap, ◌∙◌}
use mathlib.Core.Bool.{Bool, true, false, ◌&&◌}
use mathlib.Core.List.{List}
use mathlib.Core.Logic.{⊎_elim}
use Prim.Native.Nat.{ℕ, suc, ◌+◌, ◌-◌, ◌≤◌, ◌<◌}
use native.Mathlib.Omega.{arith}
use lib.Dec.{ltb, leb}
use lib.ListN.{length, get_or, set, length-set}
use lib.Seq.{get_or-set_same, get_or-set_other}
use borrow.Author.Tests.{eq-eqb, ne_eqb, lt-ltb, le-ltb, le-leb, leb-true}
use Rattle.laws.proofs.Tests.{le_or, lt_by, false_by, and_true, and_intro, never}
use Rattle.paper_nests.specs.Kinds.{DO, ENDDO, POINTS}
use Rattle.paper_nests.specs.Loops.{is_do, end_of, is_around}
use Rattle.paper_nests.specs.Valid.{is_shape}
use Rattle.paper_nests.proofs.Levels.{lev, lev_up, lev_same, lev_falls}
use Rattle.paper_nests.proofs.Loops.{range_above, end_beyond}

-- back to i the table is filled; the lowest level from i to the gap is `base`, and the level at i is `depth` above it
pub record Walked (ps : List ℕ) (g depth i : ℕ) (table : List Bool) : Type 0 where
  pub long : length table ≡ POINTS
  pub low : depth + i ≤ g
  pub base : ℕ
  pub level : lev ps i ≡ base + depth
  pub over : (j : ℕ) → i ≤ j → j ≤ g → base ≤ lev ps j
  pub at : ℕ
  pub at_after : i ≤ at
  pub at_before : at ≤ g
  pub at_base : lev ps at ≡ base
  pub filled : (d : ℕ) → i ≤ d → is_do ps d ≡ true → get_or table d false ≡ is_around ps g d
  pub blank : (d : ℕ) → d < i → get_or table d false ≡ false

pub walk_start
    : (ps : List ℕ) (g : ℕ) (table : List Bool)
    → length table ≡ POINTS
    → ((d : ℕ) → get_or table d false ≡ false)
    → Walked ps g 0 g table
walk_start ps g table l b =
    record {
      long = l;
      low = omega arith;
      base = lev ps g;
      level = omega arith;
      over = λ j p q. let e : j ≡ g = omega arith in rw e (omega arith);
      at = g;
      at_after = omega arith;
      at_before = omega arith;
      at_base = refl;
      filled = λ d p q. b d ∙ sym (ap (λ (t : Bool). t && leb g (end_of ps d)) (le-ltb d g p));
      blank = λ d p. b d;
    }

module _ (ps : List ℕ) (shape : is_shape ps ≡ true) (g : ℕ) (there : length ps ≤ POINTS) (inside : g < length ps) where
  module _ (depth i : ℕ) (table : List Bool) (w : Walked ps g depth (suc i) table) where
    -- a point that is no loop around the gap, at a level that is not lower
    step
        : (depth' : ℕ)
        → lev ps i ≡ w.base + depth'
        → depth' ≤ depth + 1
        → (is_do ps i ≡ true → is_around ps g i ≡ false)
        → Walked ps g depth' i table
    step depth' e h f =
        record {
          long = w.long;
          low = omega (arith, w.low);
          base = w.base;
          level = e;
          over =
              λ j a b.
              ⊎_elim
              (λ (z : suc i ≤ j). w.over j z b)
              (λ (z : j < suc i). let y : j ≡ i = omega arith in rw y (omega (arith, e)))
              (le_or (suc i) j);
          at = w.at;
          at_after = omega (arith, w.at_after);
          at_before = w.at_before;
          at_base = w.at_base;
          filled =
              λ d a b.
              ⊎_elim
              (λ (z : suc i ≤ d). w.filled d z b)
              (λ (z : d < suc i).
              let y : d ≡ i = omega arith in
              w.blank d z ∙ sym (let q : is_do ps i ≡ true = rw y at b in rw y (f q)))
              (le_or (suc i) d);
          blank = λ d a. w.blank d (omega arith);
        }

    not_do : (get_or ps i 0 ≡ DO → ⊥) → is_do ps i ≡ true → is_around ps g i ≡ false
    not_do n h = never (sym (ne_eqb (get_or ps i 0) DO n) ∙ h)

    over_do : get_or ps i 0 ≡ DO → (depth ≡ 0 → ⊥) → Walked ps g (depth - 1) i table
    over_do e n = step (depth - 1) (omega (arith, u, w.level, some)) (omega arith) (λ h. not_around)
      where
        some : 0 < depth
        some = lt_by (λ z. n (omega arith))

        is : is_do ps i ≡ true
        is = eq-eqb (get_or ps i 0) DO e

        u : lev ps (suc i) ≡ suc (lev ps i)
        u = lev_up ps i is

        not_around : is_around ps g i ≡ false
        not_around =
            false_by λ z.
            let q = and_true (ltb i g) (leb g (end_of ps i)) z in
            let r = leb-true g (end_of ps i) q.1 in
            let a =
            range_above ps shape i w.at is (omega (arith, w.at_after)) (omega (arith, w.at_before)) in
            omega (arith, u, w.level, w.at_base, some)

    over_end : get_or ps i 0 ≡ ENDDO → Walked ps g (depth + 1) i table
    over_end e =
        let u = lev_falls ps shape i (eq-eqb (get_or ps i 0) ENDDO e) in
        step (depth + 1) (omega (arith, u, w.level)) (omega arith) (not_do (λ z. omega arith))

    over_other : (get_or ps i 0 ≡ DO → ⊥) → (get_or ps i 0 ≡ ENDDO → ⊥) → Walked ps g depth i table
    over_other a b =
        let u = lev_same ps i (ne_eqb (get_or ps i 0) DO a) (ne_eqb (get_or ps i 0) ENDDO b) in
        step depth (sym u ∙ w.level) (omega arith) (not_do a)

    -- a loop around the gap
    found : get_or ps i 0 ≡ DO → depth ≡ 0 → Walked ps g depth i (set table i true)
    found e z =
        record {
          long = length-set table i true ∙ w.long;
          low = omega (arith, w.low);
          base = lev ps i;
          level = omega arith;
          over = over;
          at = i;
          at_after = omega arith;
          at_before = omega (arith, w.low);
          at_base = refl;
          filled =
              λ d a b.
              ⊎_elim
              (λ (y : suc i ≤ d). get_or-set_other table i d true false (λ x. omega arith) ∙ w.filled d y b)
              (λ (y : d < suc i). let x : d ≡ i = omega arith in rw x here)
              (le_or (suc i) d);
          blank = λ d a. get_or-set_other table i d true false (λ x. omega arith) ∙ w.blank d (omega arith);
        }
      where
        is : is_do ps i ≡ true
        is = eq-eqb (get_or ps i 0) DO e

        u : lev ps (suc i) ≡ suc (lev ps i)
        u = lev_up ps i is

        over : (j : ℕ) → i ≤ j → j ≤ g → lev ps i ≤ lev ps j
        over j a b =
            ⊎_elim
            (λ (y : suc i ≤ j). omega (arith, w.over j y b, u, w.level))
            (λ (y : j < suc i). let x : j ≡ i = omega arith in rw x (omega arith))
            (le_or (suc i) j)

        reaches : g ≤ end_of ps i
        reaches =
            end_beyond ps shape i g is
            (λ j a b. omega (arith, w.over j a b, u, w.level))
            (omega (arith, w.low))

        here : get_or (set table i true) i false ≡ is_around ps g i
        here =
            get_or-set_same table i true false (omega (arith, w.long, w.low)) ∙
            sym (and_intro (lt-ltb i g (omega (arith, w.low))) (le-leb g (end_of ps i) reaches))

  -- the same, with the point before i as the code writes it
  module _ (depth i : ℕ) (table : List Bool) (h : 0 < i) (w : Walked ps g depth i table) where
    here : Walked ps g depth (suc (i - 1)) table
    here = let e : suc (i - 1) ≡ i = omega arith in rw e w

    pub walk_around
        : get_or ps (i - 1) 0 ≡ DO
        → depth ≡ 0
        → Walked ps g depth (i - 1) (set table (i - 1) true)
    walk_around = found depth (i - 1) table here

    pub walk_over_do : get_or ps (i - 1) 0 ≡ DO → (depth ≡ 0 → ⊥) → Walked ps g (depth - 1) (i - 1) table
    walk_over_do = over_do depth (i - 1) table here

    pub walk_over_end : get_or ps (i - 1) 0 ≡ ENDDO → Walked ps g (depth + 1) (i - 1) table
    walk_over_end = over_end depth (i - 1) table here

    pub walk_over_other
        : (get_or ps (i - 1) 0 ≡ DO → ⊥)
        → (get_or ps (i - 1) 0 ≡ ENDDO → ⊥)
        → Walked ps g depth (i - 1) table
    walk_over_other = over_other depth (i - 1) table here
