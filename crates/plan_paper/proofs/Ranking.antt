-- The table of ranks: 1 for each gap that is not barred, summed from the left.
-- Main definitions: `FreeFrom`, `RanksTo`, what a turn of the two loops keeps. Main statements: `free_start`, `free_on`,
-- `ranks_start`, `rank_fits`, `ranks_on`, `ranks_done`.
use mathlib.Core.Path.{◌≡◌, subst, refl, sym, ◌∙◌}
use mathlib.Core.List.{List, ◌∷◌}
use Prim.Native.Nat.{ℕ, zero, suc, ◌+◌, ◌-◌, ◌≤◌, ◌<◌}
use native.Mathlib.Omega.{arith}
use lib.ListN.{length, get_or, set, drop, length-set}
use borrow.Author.Tests.{eq-eqb, ne_eqb}
use Rattle.laws.specs.Bits.{one}
use Rattle.laws.specs.Entries.{at}
use Rattle.laws.proofs.Copies.{copies, copies_there}
use Rattle.laws.proofs.Stores.{stored}
use Rattle.paper_nests.specs.declared.Nest as DN
use Rattle.paper_nests.specs.Kinds.{POINTS}
use Rattle.paper_nests.specs.Stored.{nest_in, IsCounted}
use Rattle.paper_nests.proofs.Stored.{counted_bars}
use Rattle.paper_placements.specs.Placements.{is_free}
use Rattle.paper_placements.proofs.Sets.{none_behind, number_at}
use Rattle.paper_barred.specs.Ranks.{rank}
use Rattle.paper_barred.proofs.Ranks.{rank_zero, rank_le}
use Rattle.plan_paper.specs.Tables.{HasFree, HasRanks}

-- ---- the gaps that are not barred

-- the table is that of the barred gaps from the i-th on
pub record FreeFrom (n : DN.Nest) (i : ℕ) (xs : List ℕ) : Type 0 where
  pub within : i ≤ n.bars
  pub long : length xs ≡ POINTS
  pub free_is : HasFree (drop i (nest_in n).barred) xs

-- without barred gaps it is 1 everywhere
pub free_start : (n : DN.Nest) → IsCounted n → FreeFrom n n.bars (copies POINTS 1)
unfolding copies
free_start n p =
    record {
      within = omega arith;
      long = refl;
      free_is = λ g l. copies_there POINTS 1 g 0 l ∙ rw (none_behind n.barred n.bars (counted_bars n p)) refl;
    }

-- a gap in front of the barred ones
module _ (g : ℕ) (bs : List ℕ) where
  barred_here : 0 ≡ one (is_free (g ∷ bs) g)
  barred_here = rw (eq-eqb g g refl) refl

  free_elsewhere : (j : ℕ) → (j ≡ g → ⊥) → is_free (g ∷ bs) j ≡ is_free bs j
  free_elsewhere j e = rw (ne_eqb j g e) refl

pub free_on
    : (n : DN.Nest) → IsCounted n → (i : ℕ) → 0 < i → (xs : List ℕ)
    → get_or n.barred (i - 1) 0 < POINTS
    → FreeFrom n i xs
    → FreeFrom n (i - 1) (set xs (get_or n.barred (i - 1) 0) 0)
free_on n p i some xs h f =
    let g = get_or n.barred (i - 1) 0 in
    let bs = drop i (nest_in n).barred in
    record {
      within = omega (arith, f.within);
      long = length-set xs g 0 ∙ f.long;
      free_is = rw (number_at n.barred n.bars (counted_bars n p) i some f.within) (λ j l.
          stored xs g 0 j (one (is_free (g ∷ bs) j)) (omega (arith, f.long))
          (λ e. let P : ℕ → Type 0 = λ x. 0 ≡ one (is_free (g ∷ bs) x) in subst P (sym e) (barred_here g bs))
          (λ e. rw (free_elsewhere g bs j e) (f.free_is j l)));
    }

-- ---- the ranks

-- before gap g the table has ranks, the last of them is r, and from g on it has what each gap adds
pub record RanksTo (bs : List ℕ) (g r : ℕ) (xs : List ℕ) : Type 0 where
  pub first : 0 < g
  pub fits : g ≤ POINTS
  pub long : length xs ≡ POINTS
  pub last : r ≡ rank bs (g - 1)
  pub passed : (j : ℕ) → j < g → at xs j ≡ rank bs j
  pub ahead : (j : ℕ) → g ≤ j → j < POINTS → at xs j ≡ one (is_free bs j)

module _ (bs : List ℕ) where
  pub rank_at : (g : ℕ) → 0 < g → rank bs g ≡ one (is_free bs g) + rank bs (g - 1)
  unfolding rank
  rank_at zero l = absurd (omega arith)
  rank_at (suc g) l = let z : suc g - 1 ≡ g = omega arith in rw z refl

  pub ranks_start : (xs : List ℕ) → length xs ≡ POINTS → HasFree bs xs → RanksTo bs 1 0 (set xs 0 0)
  ranks_start xs e f =
      record {
        first = omega arith;
        fits = omega arith;
        long = length-set xs 0 0 ∙ e;
        last = sym (rank_zero bs);
        passed = λ j l.
            let z : j ≡ 0 = omega arith in
            stored xs 0 0 j (rank bs j) (omega arith) (λ y. rw z (sym (rank_zero bs))) (λ y. absurd (y z));
        ahead = λ j a b.
            stored xs 0 0 j (one (is_free bs j)) (omega arith) (λ y. absurd (omega arith)) (λ y. f j b);
      }

  module _ (g r : ℕ) (xs : List ℕ) (l : g < POINTS) (p : RanksTo bs g r xs) where
    next_rank : r + at xs g ≡ rank bs g
    next_rank = omega (arith, rank_at g p.first, p.last, p.ahead g (omega arith) l)

    pub rank_fits : r + at xs g ≤ g
    rank_fits = omega (arith, next_rank, rank_le bs g)

    pub ranks_on : RanksTo bs (g + 1) (r + at xs g) (set xs g (r + at xs g))
    ranks_on =
        let back : g + 1 - 1 ≡ g = omega arith in
        record {
          first = omega arith;
          fits = omega arith;
          long = length-set xs g (r + at xs g) ∙ p.long;
          last = rw back next_rank;
          passed = λ j m.
              stored xs g (r + at xs g) j (rank bs j) (omega (arith, p.long)) (λ e. rw e next_rank)
              (λ e. p.passed j (omega (arith, e)));
          ahead = λ j a b.
              stored xs g (r + at xs g) j (one (is_free bs j)) (omega (arith, p.long)) (λ e. absurd (omega arith))
              (λ e. p.ahead j (omega arith) b);
        }

  pub ranks_done : (g r : ℕ) (xs : List ℕ) → POINTS ≤ g → RanksTo bs g r xs → HasRanks bs xs
  ranks_done g r xs l p j m = p.passed j (omega arith)
