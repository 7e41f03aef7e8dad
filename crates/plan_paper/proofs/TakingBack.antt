-- The key taken back: along the gaps, the one whose rank is the key's next rank is taken, and that is the first gap of
-- this rank, the one that is not barred.
-- Main definition: `Taking`, what a turn keeps. Main statements: `take_start`, `taken`, `passed`, `take_done`.
use mathlib.Core.Path.{◌≡◌, refl, sym, ◌∙◌}
use mathlib.Core.Bool.{Bool, true, false, ◌&&◌, ◌||◌}
use mathlib.Core.List.{List}
use mathlib.Core.Logic.{⊎_elim}
use Prim.Native.Nat.{ℕ, zero, suc, ◌+◌, ◌-◌, ◌≤◌, ◌<◌}
use native.Mathlib.Omega.{arith}
use lib.Dec.{eqb, ltb}
use borrow.Author.Tests.{eq-eqb, ne_eqb, lt-ltb, le-ltb}
use Rattle.laws.specs.Bits.{one}
use Rattle.laws.specs.Choice.{is_in}
use Rattle.laws.proofs.Connectives.{and_off}
use Rattle.laws.proofs.Tests.{never_both, le_or, eq_or, and_true, and_intro, false_by}
use Rattle.paper_placements.specs.Placements.{is_free}
use Rattle.paper_placements.specs.Words.{GAPS, holds, gaps_in, LowestFrom}
use Rattle.paper_placements.proofs.Words.{in_gaps, gaps_of_same}
use Rattle.paper_barred.specs.Ranks.{rank, unranked}
use Rattle.paper_barred.proofs.Ranks.{rank_zero, rank_le}
use Rattle.plan_paper.proofs.Ranking.{rank_at}
use Rattle.plan_paper.proofs.WordGaps.{words_gaps}

module _ (bs key : List ℕ) where
  -- an unbarred gap whose rank the key holds
  abbrev its : ℕ → Bool
  its g = is_free bs g && holds key (rank bs g)

  -- the gaps before g are taken back, and r is the key's next rank
  pub record Taking (k g r : ℕ) (back : List ℕ) : Type 0 where
    pub first : 0 < g
    pub within : g ≤ suc k
    pub next : LowestFrom key (suc (rank bs (g - 1))) r
    pub held : (i : ℕ) → holds back i ≡ (ltb 0 i && (ltb i g && its i))

  pub take_start
      : (k r : ℕ) (none : List ℕ)
      → LowestFrom key 1 r
      → ((i : ℕ) → holds none i ≡ false)
      → Taking k 1 r none
  take_start k r none l e =
      record {
        first = omega arith;
        within = omega arith;
        next = rw (rank_zero bs) l;
        held = λ i. e i ∙ sym (nothing i);
      }
    where
      nothing : (i : ℕ) → (ltb 0 i && (ltb i 1 && its i)) ≡ false
      nothing zero = refl
      nothing (suc i) = rw (le-ltb (suc i) 1 (omega arith)) (and_off (ltb 0 (suc i)))

  module _ (k g r : ℕ) (back : List ℕ) (l : g ≤ k) (few : k < GAPS) (p : Taking k g r back) where
    abbrev before : ℕ
    before = rank bs (g - 1)

    g_rank : rank bs g ≡ one (is_free bs g) + rank bs (g - 1)
    g_rank = rank_at bs g p.first

    below : rank bs g < GAPS
    below = omega (arith, rank_le bs g)

    back_one : g + 1 - 1 ≡ g
    back_one = omega arith

    -- a gap that has the next rank is not barred, and the key holds its rank
    next_its : rank bs g ≡ r → its g ≡ true
    next_its e =
        let h = p.next.held (omega (arith, below)) in
        and_intro (go (is_free bs g) refl g_rank (omega (arith, h.0))) (rw e h.1)
      where
        go : (t : Bool) → is_free bs g ≡ t → rank bs g ≡ one t + rank bs (g - 1) → rank bs (g - 1) < rank bs g
            → is_free bs g ≡ true
        go true f q m = f
        go false f q m = absurd (omega arith)

    -- one more gap
    held_before : (i : ℕ) → (i ≡ g → ⊥) → ltb i (g + 1) ≡ ltb i g
    held_before i n = ⊎_elim
        (λ (z : g ≤ i). le-ltb i (g + 1) (omega (arith, n)) ∙ sym (le-ltb i g z))
        (λ (z : i < g). lt-ltb i (g + 1) (omega arith) ∙ sym (lt-ltb i g z))
        (le_or g i)

    at_gap : (ltb 0 g && (ltb g (g + 1) && its g)) ≡ its g
    at_gap = rw (lt-ltb 0 g p.first, lt-ltb g (g + 1) (omega arith)) refl

    not_yet : (ltb 0 g && (ltb g g && its g)) ≡ false
    not_yet = rw (le-ltb g g (omega arith), and_off (ltb 0 g)) refl

    -- the gap is taken back, and the key's next rank is looked for behind its rank
    pub taken
        : rank bs g ≡ r
        → (r' : ℕ) (back' : List ℕ)
        → LowestFrom key (r + 1) r'
        → ((i : ℕ) → holds back' i ≡ (eqb i g || holds back i))
        → Taking k (g + 1) r' back'
    taken e r' back' m h =
        record {
          first = omega arith;
          within = omega arith;
          next =
              let z : suc (rank bs g) ≡ r + 1 = omega arith in
              rw (back_one, z) m;
          held = λ i. h i ∙ one_more i;
        }
      where
        one_more : (i : ℕ) → (eqb i g || holds back i) ≡ (ltb 0 i && (ltb i (g + 1) && its i))
        one_more i = ⊎_elim
            (λ (z : i ≡ g). rw (z, eq-eqb g g refl) (sym (at_gap ∙ next_its e)))
            (λ (z : i ≡ g → ⊥). rw (ne_eqb i g z, held_before i z) (p.held i))
            (eq_or i g)

    -- any other gap is barred, or the key does not hold its rank
    other_not : (rank bs g ≡ r → ⊥) → its g ≡ false
    other_not n = false_by (λ h.
        let a = and_true (is_free bs g) (holds key (rank bs g)) h in
        let q : rank bs g ≡ 1 + rank bs (g - 1) = rw a.0 at g_rank in
        ⊎_elim
        (λ (z : r ≤ rank bs g).
        let y = p.next.held (omega (arith, below)) in
        absurd (n (omega (arith, y.0))))
        (λ (z : rank bs g < r). never_both a.1 (p.next.none (rank bs g) below (omega arith) z))
        (le_or r (rank bs g)))

    next_still : (rank bs g ≡ r → ⊥) → LowestFrom key (suc (rank bs g)) r
    next_still n = go (is_free bs g) g_rank
      where
        go : (t : Bool) → rank bs g ≡ one t + rank bs (g - 1) → LowestFrom key (suc (rank bs g)) r
        go true q =
            record {
              fits = p.next.fits;
              held = λ m. (omega (arith, (p.next.held m).0, n), (p.next.held m).1);
              none = λ i a b c. p.next.none i a (omega arith) c;
            }
        go false q =
            let z : rank bs g ≡ rank bs (g - 1) = omega arith in
            rw z p.next

    pub passed : (rank bs g ≡ r → ⊥) → Taking k (g + 1) r back
    passed n =
        record {
          first = omega arith;
          within = omega arith;
          next = rw back_one (next_still n);
          held = λ i. p.held i ∙ no_more i;
        }
      where
        no_more : (i : ℕ) → (ltb 0 i && (ltb i g && its i)) ≡ (ltb 0 i && (ltb i (g + 1) && its i))
        no_more i = ⊎_elim
            (λ (z : i ≡ g). rw z (not_yet ∙ sym (at_gap ∙ other_not n)))
            (λ (z : i ≡ g → ⊥). rw (held_before i z) refl)
            (eq_or i g)

  pub take_done
      : (k g r : ℕ) (back : List ℕ)
      → k < GAPS
      → k < g
      → Taking k g r back
      → gaps_in back ≡ unranked bs k (gaps_in key)
  take_done k g r back few l p =
      words_gaps its k back few (p.held 0) inside behind ∙
      gaps_of_same its (λ i. is_free bs i && is_in (rank bs i) (gaps_in key)) k 1 listed
    where
      end : g ≡ suc k
      end = omega (arith, p.within)

      inside : (i : ℕ) → 0 < i → i ≤ k → holds back i ≡ its i
      inside i a b = p.held i ∙ rw (lt-ltb 0 i a, lt-ltb i g (omega arith)) refl

      behind : (i : ℕ) → k < i → i < GAPS → holds back i ≡ false
      behind i a b = p.held i ∙ rw (le-ltb i g (omega (arith, end)), and_off (ltb 0 i)) refl

      listed
          : (i : ℕ) → 1 ≤ i → i < 1 + k
          → (is_free bs i && holds key (rank bs i)) ≡ (is_free bs i && is_in (rank bs i) (gaps_in key))
      listed i a b = rw (in_gaps key (rank bs i) (omega (arith, rank_le bs i))) refl
