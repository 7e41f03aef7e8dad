-- The scan back from a gap for the loop that it belongs to: the last DO before it with a lower level.
-- Main statements: `Back`, what a turn keeps; `back_found`, `back_over_do`, `back_over_end`,
-- `back_over_other`, `back_ends`.
use mathlib.Core.Path.{◌≡◌, sym, ap, ◌∙◌}
use mathlib.Core.Bool.{true}
use mathlib.Core.List.{List}
use mathlib.Core.Logic.{⊎_elim}
use Prim.Native.Nat.{ℕ, suc, ◌+◌, ◌-◌, ◌≤◌, ◌<◌}
use native.Mathlib.Omega.{arith}
use lib.ListN.{length, get_or}
use borrow.Author.Tests.{eq-eqb, ne_eqb}
use Rattle.laws.proofs.Tests.{le_or, le_by, lt_by}
use Rattle.paper_nests.specs.Loops.{owner_of}
use Rattle.paper_nests.specs.Valid.{is_shape}
use Rattle.paper_nests.proofs.Levels.{lev, lev_up, lev_same, lev_zero, lev_inside, lev_falls}
use Rattle.paper_nests.proofs.Loops.{owner_last, owner_lower, owner_below}

-- back to i the level has not been below the gap's, and is `depth` above it there
pub record Back (ps : List ℕ) (g depth i : ℕ) : Type 0 where
  pub level : lev ps i ≡ lev ps g + depth
  pub over : (j : ℕ) → i ≤ j → j ≤ g → lev ps g ≤ lev ps j
  pub low : depth + i ≤ g

module _ (ps : List ℕ) (shape : is_shape ps ≡ true) (g : ℕ) (first : 0 < g) (there : g < length ps) where
  -- one point back, at a level that is still high enough
  step
      : (depth i depth' : ℕ)
      → Back ps g depth (suc i)
      → lev ps i ≡ lev ps g + depth'
      → depth' ≤ depth + 1
      → Back ps g depth' i
  step depth i depth' p e h =
      record {
        level = e;
        over =
            λ j a b.
            ⊎_elim
            (λ (z : suc i ≤ j). p.over j z b)
            (λ (z : j < suc i). let y : j ≡ i = omega arith in rw y (omega (arith, e)))
            (le_or (suc i) j);
        low = omega (arith, p.low);
      }

  module _ (depth i : ℕ) (p : Back ps g depth (suc i)) where
    found : get_or ps i 0 ≡ 1 → depth ≡ 0 → i ≡ owner_of ps g
    found e z =
        let u = lev_up ps i (eq-eqb (get_or ps i 0) 1 e) in
        let o = owner_lower ps shape g first there in
        let b = owner_below ps shape g first there in
        let a : i ≤ owner_of ps g =
        le_by (λ l. omega (arith, owner_last ps shape g i first there l (omega (arith, p.low)), p.level)) in
        let c : owner_of ps g ≤ i = le_by (λ l. omega (arith, p.over (owner_of ps g) l (omega arith))) in
        omega arith

    over_do : get_or ps i 0 ≡ 1 → (depth ≡ 0 → ⊥) → Back ps g (depth - 1) i
    over_do e n =
        let u = lev_up ps i (eq-eqb (get_or ps i 0) 1 e) in
        let some : 0 < depth = lt_by (λ z. n (omega arith)) in
        step depth i (depth - 1) p (omega (arith, u, p.level)) (omega arith)

    over_end : get_or ps i 0 ≡ 2 → Back ps g (depth + 1) i
    over_end e =
        let u = lev_falls ps shape i (eq-eqb (get_or ps i 0) 2 e) in
        step depth i (depth + 1) p (omega (arith, u, p.level)) (omega arith)

    over_other : (get_or ps i 0 ≡ 1 → ⊥) → (get_or ps i 0 ≡ 2 → ⊥) → Back ps g depth i
    over_other a b =
        let u = lev_same ps i (ne_eqb (get_or ps i 0) 1 a) (ne_eqb (get_or ps i 0) 2 b) in
        step depth i depth p (sym u ∙ p.level) (omega arith)

  -- the same, with the point before i as the code writes it
  module _ (depth i : ℕ) (h : 0 < i) (p : Back ps g depth i) where
    here : Back ps g depth (suc (i - 1))
    here = let e : suc (i - 1) ≡ i = omega arith in rw e p

    pub back_found : get_or ps (i - 1) 0 ≡ 1 → depth ≡ 0 → i - 1 ≡ owner_of ps g
    back_found = found depth (i - 1) here

    pub back_over_do : get_or ps (i - 1) 0 ≡ 1 → (depth ≡ 0 → ⊥) → Back ps g (depth - 1) (i - 1)
    back_over_do = over_do depth (i - 1) here

    pub back_over_end : get_or ps (i - 1) 0 ≡ 2 → Back ps g (depth + 1) (i - 1)
    back_over_end = over_end depth (i - 1) here

    pub back_over_other : (get_or ps (i - 1) 0 ≡ 1 → ⊥) → (get_or ps (i - 1) 0 ≡ 2 → ⊥) → Back ps g depth (i - 1)
    back_over_other = over_other depth (i - 1) here

  -- the first point is never reached
  pub back_ends : (depth i : ℕ) → i ≤ 0 → Back ps g depth i → ⊥
  back_ends depth i h p =
      let e : i ≡ 0 = omega arith in
      omega (arith, lev_zero ps, lev_inside ps shape g first there, p.level, ap (lev ps) e)
