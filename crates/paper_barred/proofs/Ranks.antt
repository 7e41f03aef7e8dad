-- Ranks rise strictly along the gaps that are not barred, and every rank is that of one such gap.
-- Main statements: `rank_monotone`, `rank_of_free`, `ranked_below`, `ranked_above`, `ranked_equal`, `rank_found`,
-- `rank_alike`.
use mathlib.Core.Path.{◌≡◌, refl}
use mathlib.Core.Bool.{Bool, true, false}
use mathlib.Core.List.{List}
use mathlib.Core.Logic.{⊎_elim}
use Prim.Native.Nat.{ℕ, zero, suc, ◌+◌, ◌≤◌, ◌<◌}
use native.Mathlib.Omega.{arith}
use lib.Dec.{ltb, leb}
use Rattle.laws.specs.Choice.{is_in}
use Rattle.laws.specs.Bits.{one}
use borrow.Author.Tests.{ltb-true, leb-true, lt-ltb, le-leb}
use Rattle.laws.proofs.Tests.{le_or, eq_or, eq_by, le_by, lt_by, bool_by}
use Rattle.paper_placements.specs.Placements.{is_free}
use Rattle.paper_barred.specs.Ranks.{rank}

module _ (bs : List ℕ) where
  -- one gap more
  rank_next : (g : ℕ) → rank bs (suc g) ≡ one (is_free bs (suc g)) + rank bs g
  unfolding rank
  rank_next g = refl

  pub rank_zero : rank bs 0 ≡ 0
  unfolding rank
  rank_zero = refl

  rank_step : (g : ℕ) → (rank bs g ≤ rank bs (suc g)) × (rank bs (suc g) ≤ suc (rank bs g))
  rank_step g = go (is_free bs (suc g)) (rank_next g)
    where
      go
          : (t : Bool) → rank bs (suc g) ≡ one t + rank bs g
          → (rank bs g ≤ rank bs (suc g)) × (rank bs (suc g) ≤ suc (rank bs g))
      go true e = (omega arith, omega arith)
      go false e = (omega arith, omega arith)

  pub rank_monotone : (g h : ℕ) → g ≤ h → rank bs g ≤ rank bs h
  rank_monotone g zero l = let z : g ≡ 0 = omega arith in rw z (omega arith)
  rank_monotone g (suc h) l = ⊎_elim
      (λ (z : g ≡ suc h). rw z (omega arith))
      (λ (z : g ≡ suc h → ⊥). omega (arith, rank_monotone g h (omega (arith, z)), (rank_step h).0))
      (eq_or g (suc h))

  pub rank_le : (g : ℕ) → rank bs g ≤ g
  rank_le zero = omega (arith, rank_zero)
  rank_le (suc g) = omega (arith, rank_le g, (rank_step g).1)

  -- an unbarred gap has a rank above all before it
  pub rank_of_free : (g h : ℕ) → is_free bs g ≡ true → h < g → rank bs h < rank bs g
  rank_of_free zero h f l = absurd (omega arith)
  rank_of_free (suc g) h f l =
      let e : rank bs (suc g) ≡ 1 + rank bs g = rw f at (rank_next g) in
      omega (arith, rank_monotone h g (omega arith))

  pub rank_first : (g : ℕ) → is_free bs g ≡ true → 0 < g → 0 < rank bs g
  rank_first g f l = omega (arith, rank_of_free g 0 f l)

  -- so an unbarred gap lies beside any point as its rank beside the point's
  pub ranked_below : (g t : ℕ) → is_free bs g ≡ true → leb (rank bs g) (rank bs t) ≡ leb g t
  ranked_below g t f =
      bool_by (leb (rank bs g) (rank bs t)) (leb g t)
      (λ h. le-leb g t (le_by (λ z. omega (arith, leb-true (rank bs g) (rank bs t) h, rank_of_free g t f z))))
      (λ h. le-leb (rank bs g) (rank bs t) (rank_monotone g t (leb-true g t h)))

  pub ranked_above : (s g : ℕ) → is_free bs g ≡ true → ltb (rank bs s) (rank bs g) ≡ ltb s g
  ranked_above s g f =
      bool_by (ltb (rank bs s) (rank bs g)) (ltb s g)
      (λ h. lt-ltb s g (lt_by (λ z. omega (arith, ltb-true (rank bs s) (rank bs g) h, rank_monotone g s z))))
      (λ h. lt-ltb (rank bs s) (rank bs g) (rank_of_free g s f (ltb-true s g h)))

  pub ranked_equal : (g h : ℕ) → is_free bs g ≡ true → is_free bs h ≡ true → rank bs g ≡ rank bs h → g ≡ h
  ranked_equal g h f k e =
      eq_by (λ (z : g ≡ h → ⊥).
      ⊎_elim
      (λ (l : g ≤ h). omega (arith, rank_of_free h g k (omega (arith, z))))
      (λ (l : h < g). omega (arith, rank_of_free g h f l))
      (le_or g h))

  -- ranks are those of unbarred gaps
  pub record Ranked (k r : ℕ) : Type 0 where
    pub gap : ℕ
    pub first : 0 < gap
    pub last : gap ≤ k
    pub free : is_free bs gap ≡ true
    pub rank_is : rank bs gap ≡ r

  pub rank_found : (k r : ℕ) → 0 < r → r ≤ rank bs k → Ranked k r
  rank_found zero r l m = absurd (omega (arith, rank_zero))
  rank_found (suc k) r l m = go (is_free bs (suc k)) refl (rank_next k) (λ z. rank_found k r l z)
    where
      further : Ranked k r → Ranked (suc k) r
      further x =
          record {
            gap = x.gap;
            first = x.first;
            last = omega (arith, x.last);
            free = x.free;
            rank_is = x.rank_is;
          }

      go
          : (t : Bool) → is_free bs (suc k) ≡ t → rank bs (suc k) ≡ one t + rank bs k → (r ≤ rank bs k → Ranked k r)
          → Ranked (suc k) r
      go false f e rest = further (rest (omega arith))
      go true f e rest = ⊎_elim
          (λ (z : r ≤ rank bs k). further (rest z))
          (λ (z : rank bs k < r).
          record { gap = suc k; first = omega arith; last = omega arith; free = f; rank_is = omega arith })
          (le_or r (rank bs k))

-- the rank depends on which gaps are barred, not on how they are listed
pub rank_alike : (as' bs : List ℕ) → ((i : ℕ) → is_in i as' ≡ is_in i bs) → (g : ℕ) → rank as' g ≡ rank bs g
unfolding rank
rank_alike as' bs h zero = refl
rank_alike as' bs h (suc g) = rw (h (suc g), rank_alike as' bs h g)
