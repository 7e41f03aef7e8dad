-- Placements that avoid barred gaps, renumbered and back: rising lists of unbarred gaps are the rising lists of ranks.
-- Main statements: `ranks_length`, `ranks_rising`, `unranked_rising`, `unranked_avoids`, `ranks_unranked`.
use mathlib.Core.Path.{◌≡◌, refl, sym, ap, subst, ◌∙◌}
use mathlib.Core.Bool.{Bool, true, ◌&&◌}
use mathlib.Core.List.{List, [], ◌∷◌}
use mathlib.Core.Logic.{⊎_elim}
use Prim.Native.Nat.{ℕ, suc, ◌≤◌, ◌<◌}
use native.Mathlib.Omega.{arith}
use lib.ListN.{length}
use borrow.Author.Tests.{lt-ltb}
use Rattle.laws.specs.Choice.{is_in}
use Rattle.laws.proofs.Tests.{never, and_intro, and_true, bool_by}
use Rattle.laws.proofs.Members.{in_here, in_later, in_cons}
use Rattle.paper_placements.specs.Placements.{are_gaps_from, is_free, avoids}
use Rattle.paper_placements.proofs.Cuts.{avoids_by}
use Rattle.paper_placements.proofs.Words.{gaps_of_in, gaps_of_rising}
use Rattle.paper_placements.proofs.Rising.{rises, rising_in, rising_equal}
use Rattle.paper_barred.specs.Ranks.{rank, ranks, unranked}
use Rattle.paper_barred.proofs.Ranks.{rank_zero, rank_monotone, rank_of_free, rank_found}

module _ (bs : List ℕ) where
  pub ranks_length : (gs : List ℕ) → length (ranks bs gs) ≡ length gs
  ranks_length [] = refl
  ranks_length (g ∷ gs) = ap suc (ranks_length gs)

  -- rising gaps up to k have rising ranks up to that of k
  pub ranks_rising
      : (last k : ℕ) (gs : List ℕ)
      → are_gaps_from last (suc k) gs ≡ true
      → avoids bs gs ≡ true
      → are_gaps_from (rank bs last) (suc (rank bs k)) (ranks bs gs) ≡ true
  ranks_rising last k [] h v = refl
  ranks_rising last k (g ∷ gs) h v =
      let r = rises last (suc k) g gs h in
      let a = and_true (is_free bs g) (avoids bs gs) v in
      let low = rank_of_free bs g last a.0 r.above in
      let high = rank_monotone bs g k (omega (arith, r.below)) in
      and_intro
      (lt-ltb (rank bs last) (rank bs g) low)
      (and_intro
      (lt-ltb (rank bs g) (suc (rank bs k)) (omega arith))
      (ranks_rising g k gs r.rest a.1))

  -- what a renumbered placement holds
  record RankIn (gs : List ℕ) (r : ℕ) : Type 0 where
    gap : ℕ
    there : is_in gap gs ≡ true
    rank_is : rank bs gap ≡ r

  rank_in : (gs : List ℕ) (r : ℕ) → is_in r (ranks bs gs) ≡ true → RankIn gs r
  rank_in [] r h = never h
  rank_in (g ∷ gs) r h = ⊎_elim
      (λ (z : r ≡ rank bs g). record { gap = g; there = in_here g gs; rank_is = sym z })
      (λ (z : is_in r (ranks bs gs) ≡ true).
      let x = rank_in gs r z in
      record { gap = x.gap; there = in_later x.gap g gs x.there; rank_is = x.rank_is })
      (in_cons r (rank bs g) (ranks bs gs) h)

  gap_in : (gs : List ℕ) (g : ℕ) → is_in g gs ≡ true → is_in (rank bs g) (ranks bs gs) ≡ true
  gap_in [] g h = never h
  gap_in (x ∷ gs) g h = ⊎_elim
      (λ (z : g ≡ x). let P : ℕ → Type 0 = λ n. is_in (rank bs n) (rank bs x ∷ ranks bs gs) ≡ true in
      subst P (sym z) (in_here (rank bs x) (ranks bs gs)))
      (λ (z : is_in g gs ≡ true). in_later (rank bs g) (rank bs x) (ranks bs gs) (gap_in gs g z))
      (in_cons g x gs h)

  -- ---- back from ranks

  module _ (k : ℕ) (rs : List ℕ) where
    abbrev its : ℕ → Bool
    its g = is_free bs g && is_in (rank bs g) rs

    in_unranked : (g : ℕ) → 0 < g → g ≤ k → is_in g (unranked bs k rs) ≡ its g
    in_unranked g l m = gaps_of_in its k 1 g (omega arith) (omega arith)

    pub unranked_rising : are_gaps_from 0 (suc k) (unranked bs k rs) ≡ true
    unranked_rising = gaps_of_rising its (suc k) k 1 0 (λ i a b c. (omega arith, omega arith))

    -- a gap of it is unbarred, and its rank is in the list
    record Its (g : ℕ) : Type 0 where
      first : 0 < g
      last : g ≤ k
      free : is_free bs g ≡ true
      ranked : is_in (rank bs g) rs ≡ true

    unranked_its : (g : ℕ) → is_in g (unranked bs k rs) ≡ true → Its g
    unranked_its g h =
        let r = rising_in 0 (suc k) (unranked bs k rs) g unranked_rising h in
        let a = and_true (is_free bs g) (is_in (rank bs g) rs) (sym (in_unranked g r.0 (omega (arith, r.1))) ∙ h) in
        record { first = r.0; last = omega (arith, r.1); free = a.0; ranked = a.1 }

    pub unranked_avoids : avoids bs (unranked bs k rs) ≡ true
    unranked_avoids = avoids_by bs (unranked bs k rs) (λ i h. (unranked_its i h).free)

    pub ranks_unranked : are_gaps_from 0 (suc (rank bs k)) rs ≡ true → ranks bs (unranked bs k rs) ≡ rs
    ranks_unranked h =
        rising_equal 0 (suc (rank bs k)) (ranks bs (unranked bs k rs)) rs
        (rw (rank_zero bs) at (ranks_rising 0 k (unranked bs k rs) unranked_rising unranked_avoids))
        h
        (λ r. bool_by (is_in r (ranks bs (unranked bs k rs))) (is_in r rs) (there r) (back r))
      where
        there : (r : ℕ) → is_in r (ranks bs (unranked bs k rs)) ≡ true → is_in r rs ≡ true
        there r p =
            let x = rank_in (unranked bs k rs) r p in
            rw x.rank_is at (unranked_its x.gap x.there).ranked

        back : (r : ℕ) → is_in r rs ≡ true → is_in r (ranks bs (unranked bs k rs)) ≡ true
        back r p =
            let l = rising_in 0 (suc (rank bs k)) rs r h p in
            let x = rank_found bs k r l.0 (omega (arith, l.1)) in
            let q : is_in (rank bs x.gap) rs ≡ true = rw x.rank_is p in
            let i : is_in x.gap (unranked bs k rs) ≡ true =
            in_unranked x.gap x.first x.last ∙ and_intro x.free q in
            rw x.rank_is at (gap_in (unranked bs k rs) x.gap i)
