-- The table of the ENDDOs, filled from the last point back: at each point the ENDDO behind it that closes the loop which
-- is open there. Behind a DO that is the DO's own; in front of it, the one that comes after the DO's own.
-- Main statements: `next_do`, `next_do_none`; `Filled`, what a turn keeps; `fill_none`, `fill_end`, `fill_do`,
-- `fill_do_none`, `fill_other`, `fill_done`.
use mathlib.Core.Path.{◌≡◌, refl, sym, ◌∙◌, ap}
use mathlib.Core.Bool.{Bool, true, false, ◌&&◌}
use mathlib.Core.List.{List, [], ◌∷◌}
use mathlib.Core.Logic.{◌⊎◌, inl, inr, ⊎_elim}
use Prim.Native.Nat.{ℕ, suc, ◌+◌, ◌-◌, ◌≤◌, ◌<◌}
use native.Mathlib.Omega.{arith}
use lib.Dec.{eqb}
use lib.ListN.{length, get_or, set, drop, length-set, length-drop, drop_of_length-le}
use lib.Seq.{drop-cons, drop-drop, get_or-set_same, get_or-set_other}
use borrow.Author.Tests.{eq-eqb, ne_eqb, eqb-true, eqb-false}
use Rattle.laws.specs.Choice.{pick}
use Rattle.laws.proofs.Connectives.{and_off}
use Rattle.laws.proofs.Tests.{eq_or, and_true}
use Rattle.paper_nests.specs.Kinds.{DO, ENDDO, POINTS}
use Rattle.paper_nests.specs.Loops.{deeper, end_from, end_of, HasEnds}
use Rattle.paper_nests.proofs.Levels.{point_in}

-- the ENDDO that closes the loop which is open before point i; the number of points where none does
abbrev pub next_end : List ℕ → ℕ → ℕ
next_end ps i = end_from i 1 (drop i ps)

deeper_by_one : (d p : ℕ) → 1 ≤ d → deeper (suc d) p ≡ suc (deeper d p)
deeper_by_one d p h = go (eqb p DO) (eqb p ENDDO)
  where
    go : (t u : Bool) → pick t (suc (suc d)) (pick u (suc d - 1) (suc d)) ≡ suc (pick t (suc d) (pick u (d - 1) d))
    go true u = refl
    go false true = omega arith
    go false false = refl

still_open : (d p : ℕ) → 1 ≤ d → (eqb p ENDDO && eqb d 1) ≡ false → 1 ≤ deeper d p
still_open d p h k = go (eqb p DO) (eqb p ENDDO) k
  where
    go : (t u : Bool) → (u && eqb d 1) ≡ false → 1 ≤ pick t (suc d) (pick u (d - 1) d)
    go true u e = omega arith
    go false true e = omega (arith, eqb-false d 1 e)
    go false false e = h

-- one level further out the search goes on behind the ENDDO that it finds, or finds none either
record Inside (ps : List ℕ) (i d e : ℕ) : Type 0 where
  from : i ≤ e
  inside : e < i + length ps
  on : end_from i (suc d) ps ≡ end_from (suc e) 1 (drop (suc e - i) ps)

record Outside (ps : List ℕ) (i d e : ℕ) : Type 0 where
  none : e ≡ i + length ps
  on : end_from i (suc d) ps ≡ e

further_out
    : (ps : List ℕ) (i d : ℕ) → 1 ≤ d → Inside ps i d (end_from i d ps) ⊎ Outside ps i d (end_from i d ps)
further_out [] i d h = inr (record { none = omega arith; on = refl })
further_out (p ∷ ps) i d h = go (eqb p ENDDO && eqb d 1) refl (further_out ps (suc i) (deeper d p))
  where
    go
        : (t : Bool)
        → (eqb p ENDDO && eqb d 1) ≡ t
        → (1 ≤ deeper d p
        → Inside ps (suc i) (deeper d p) (end_from (suc i) (deeper d p) ps)
        ⊎ Outside ps (suc i) (deeper d p) (end_from (suc i) (deeper d p) ps))
        → let e = pick t i (end_from (suc i) (deeper d p) ps) in Inside (p ∷ ps) i d e ⊎ Outside (p ∷ ps) i d e
    go true k later =
        let z = and_true (eqb p ENDDO) (eqb d 1) k in
        inl (closing (eqb-true p ENDDO z.0) (eqb-true d 1 z.1))
      where
        closing : p ≡ ENDDO → d ≡ 1 → Inside (p ∷ ps) i d i
        closing a b =
            let y : suc i - i ≡ 1 = omega arith in
            record { from = omega arith; inside = omega arith; on = rw (a, b, y) }
    go false k later = ⊎_elim (λ x. inl (within x)) (λ x. inr (past x)) (later (still_open d p h k))
      where
        step : end_from i (suc d) (p ∷ ps) ≡ end_from (suc i) (suc (deeper d p)) ps
        step = rw (ne_eqb (suc d) 1 (λ z. omega arith), and_off (eqb p ENDDO)) (rw (deeper_by_one d p h))

        within
            : Inside ps (suc i) (deeper d p) (end_from (suc i) (deeper d p) ps)
            → Inside (p ∷ ps) i d (end_from (suc i) (deeper d p) ps)
        within x =
            let e : ℕ = end_from (suc i) (deeper d p) ps in
            let z : suc e - i ≡ suc (suc e - suc i) = omega (arith, x.from) in
            record {
              from = omega (arith, x.from);
              inside = omega (arith, x.inside);
              on = step ∙ x.on ∙ ap (λ (k : ℕ). end_from (suc e) 1 (drop k (p ∷ ps))) (sym z);
            }

        past
            : Outside ps (suc i) (deeper d p) (end_from (suc i) (deeper d p) ps)
            → Outside (p ∷ ps) i d (end_from (suc i) (deeper d p) ps)
        past x = record { none = omega (arith, x.none); on = step ∙ x.on }

-- it does not lie before
next_behind : (ps : List ℕ) (i : ℕ) → i ≤ next_end ps i
next_behind ps i =
    ⊎_elim (λ x. x.from) (λ x. omega (arith, x.none)) (further_out (drop i ps) i 1 (omega arith))

-- what a point makes of the ENDDO behind it
module _ (ps : List ℕ) (i : ℕ) (h : i < length ps) where
  next-end : get_or ps i 0 ≡ ENDDO → next_end ps i ≡ i
  next-end e = rw (drop-cons ps i 0 h, eq-eqb (get_or ps i 0) ENDDO e)

  next_other : (get_or ps i 0 ≡ ENDDO → ⊥) → (get_or ps i 0 ≡ DO → ⊥) → next_end ps i ≡ next_end ps (suc i)
  next_other e f = rw (drop-cons ps i 0 h, ne_eqb (get_or ps i 0) ENDDO e, ne_eqb (get_or ps i 0) DO f)

  module _ (e : get_or ps i 0 ≡ DO) where
    out : next_end ps i ≡ end_from (suc i) 2 (drop (suc i) ps)
    out = rw (drop-cons ps i 0 h, e)

    own_end : next_end ps (suc i) ≡ end_of ps i
    own_end = rw (drop-cons ps i 0 h, e)

    -- behind its own ENDDO, or there is none
    pub next_do
        : next_end ps (suc i) < length ps
        → next_end ps i ≡ next_end ps (suc (next_end ps (suc i)))
    next_do l = out ∙ ⊎_elim (λ x. within x) (λ x. past x) (further_out (drop (suc i) ps) (suc i) 1 (omega arith))
      where
        k : ℕ
        k = next_end ps (suc i)

        within : Inside (drop (suc i) ps) (suc i) 1 k → end_from (suc i) 2 (drop (suc i) ps) ≡ next_end ps (suc k)
        within x =
            let z : suc i + (suc k - suc i) ≡ suc k = omega (arith, x.from) in
            let y : drop (suc k - suc i) (drop (suc i) ps) ≡ drop (suc k) ps =
            drop-drop (suc k - suc i) (suc i) ps ∙ ap (λ (n : ℕ). drop n ps) z in
            x.on ∙ ap (end_from (suc k) 1) y

        past : Outside (drop (suc i) ps) (suc i) 1 k → end_from (suc i) 2 (drop (suc i) ps) ≡ next_end ps (suc k)
        past x = absurd (omega (arith, x.none, length-drop (suc i) ps))

    pub next_do_none : length ps ≤ next_end ps (suc i) → next_end ps i ≡ next_end ps (suc i)
    next_do_none l = out ∙ ⊎_elim (λ x. within x) (λ x. x.on) (further_out (drop (suc i) ps) (suc i) 1 (omega arith))
      where
        within
            : Inside (drop (suc i) ps) (suc i) 1 (next_end ps (suc i))
            → end_from (suc i) 2 (drop (suc i) ps) ≡ next_end ps (suc i)
        within x = absurd (omega (arith, x.inside, length-drop (suc i) ps))

-- the entries of the points from i on are there, and `end` is the next before i
pub record Filled (ps ends : List ℕ) (end i : ℕ) : Type 0 where
  pub long : length ends ≡ POINTS
  pub high : i ≤ length ps
  pub end_is : end ≡ next_end ps i
  pub at : (j : ℕ) → i ≤ j → j < length ps → get_or ends j 0 ≡ next_end ps (suc j)

pub fill_none : (ps ends : List ℕ) → length ends ≡ POINTS → Filled ps ends (length ps) (length ps)
fill_none ps ends l =
    let none : drop (length ps) ps ≡ [] = drop_of_length-le ps {i = length ps} (omega arith) in
    record { long = l; high = omega arith; end_is = rw none; at = λ j a b. absurd (omega arith) }

-- one point more
module _ (ps ends : List ℕ) (end i : ℕ) (few : length ps ≤ POINTS) (p : Filled ps ends end (suc i)) where
  stored : (j : ℕ) → i ≤ j → j < length ps → get_or (set ends i end) j 0 ≡ next_end ps (suc j)
  stored j a b =
      ⊎_elim
      (λ (z : j ≡ i). rw z (get_or-set_same ends i end 0 (omega (arith, p.long, p.high)) ∙ p.end_is))
      (λ (z : j ≡ i → ⊥). get_or-set_other ends i j end 0 z ∙ p.at j (omega (arith, z)) b)
      (eq_or j i)

  more : (end' : ℕ) → end' ≡ next_end ps i → Filled ps (set ends i end) end' i
  more end' e =
      record { long = length-set ends i end ∙ p.long; high = omega (arith, p.high); end_is = e; at = stored }

  pub fill_end : get_or ps i 0 ≡ ENDDO → Filled ps (set ends i end) i i
  fill_end e = more i (sym (next-end ps i p.high e))

  pub fill_do : get_or ps i 0 ≡ DO → end < length ps → Filled ps (set ends i end) (get_or (set ends i end) end 0) i
  fill_do e l =
      let is = p.end_is in
      let behind : i ≤ end = omega (arith, is, next_behind ps (suc i)) in
      let inside : next_end ps (suc i) < length ps = omega (arith, is) in
      more (get_or (set ends i end) end 0)
      (stored end behind l ∙ ap (λ (k : ℕ). next_end ps (suc k)) is ∙ sym (next_do ps i p.high e inside))

  pub fill_do_none : get_or ps i 0 ≡ DO → length ps ≤ end → Filled ps (set ends i end) end i
  fill_do_none e l =
      let is = p.end_is in
      more end (is ∙ sym (next_do_none ps i p.high e (omega (arith, is))))

  pub fill_other
      : (get_or ps i 0 ≡ ENDDO → ⊥) → (get_or ps i 0 ≡ DO → ⊥) → Filled ps (set ends i end) end i
  fill_other e f = more end (p.end_is ∙ sym (next_other ps i p.high e f))

-- the same place, as one behind another
pub fill_open : (ps ends : List ℕ) (end i : ℕ) → 0 < i → Filled ps ends end i → Filled ps ends end (suc (i - 1))
fill_open ps ends end i h p = let z : suc (i - 1) ≡ i = omega arith in rw z p

pub fill_done : (ps ends : List ℕ) (end : ℕ) → Filled ps ends end 0 → HasEnds ps ends
fill_done ps ends end p d m =
    let l = point_in ps d 0 m in
    p.at d (omega arith) l ∙ own_end ps d l (eqb-true (get_or ps d 0) DO m)
