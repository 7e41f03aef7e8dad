-- Loops that have one end of a dependence alone: by their DOs and ENDDOs, as words, and as a statement.
-- Main statements: `splits_iff`, `in_one_end`; `no_one_end`, `one_end_set`.
use mathlib.Core.Path.{◌≡◌, refl, sym, ◌∙◌, ap}
use mathlib.Core.Bool.{Bool, true, false, ◌&&◌, not}
use mathlib.Core.List.{List}
use mathlib.Core.Logic.{◌⊎◌, inl, inr, ⊎_elim, ◌↔◌}
use Prim.Native.Nat.{ℕ, ◌≤◌, ◌<◌}
use native.Mathlib.Omega.{arith}
use lib.Dec.{eqb, ltb}
use lib.ListN.{length}
use borrow.Author.Tests.{eqb-true, eq-eqb, ltb-true, lt-ltb, not-true}
use Rattle.laws.specs.Choice.{is_in}
use Rattle.laws.specs.Entries.{at}
use Rattle.laws.proofs.Tests.{le_or, false_by, and_true, and_intro, or-true, or_left, or_right}
use Rattle.laws.proofs.Connectives.{and_off}
use Rattle.paper_nests.specs.Kinds.{CARRIED, POINTS}
use Rattle.paper_nests.specs.Nests.{Dep}
use Rattle.paper_nests.specs.Loops.{end_of, HasEnds, in_loop}
use Rattle.paper_nests.specs.Valid.{is_shape}
use Rattle.paper_nests.proofs.Levels.{point_in}
use Rattle.paper_nests.proofs.Loops.{end-after}
use Rattle.paper_placements.specs.Words.{GAPS, holds, gaps_in}
use Rattle.paper_placements.proofs.Words.{gaps_of_in, gaps_of_to, gaps_of_same, gaps_of_up_to}
use Rattle.call_missing.specs.Foreign.{AreFlags, belongs}
use Rattle.call_missing.proofs.Apart.{belongs_between}
use Rattle.call_skipped.specs.OneEnd.{has_one_end, goes_on, is_split, one_end_by, Splits, is_one_end, WithOneEnd}

module _ (ps fs : List ℕ) (e : Dep) where
  -- the test as a statement, and back
  pub splits_iff : (d : ℕ) → (is_split ps fs e d ≡ true) ↔ Splits ps fs e d
  unfolding is_split
  splits_iff d = (to, from)
    where
      to : is_split ps fs e d ≡ true → Splits ps fs e d
      to h =
          let a = and_true (is_in d fs) (goes_on e && has_one_end ps e d) h in
          let b = and_true (goes_on e) (has_one_end ps e d) a.1 in
          let c = and_true (eqb e.kind CARRIED) (ltb e.s e.t) b.0 in
          record {
            flagged = a.0;
            carried = eqb-true e.kind CARRIED c.0;
            forward = ltb-true e.s e.t c.1;
            one_end =
                ⊎_elim
                (λ (z : (in_loop ps d e.s && not (belongs ps d e.t)) ≡ true).
                let y = and_true (in_loop ps d e.s) (not (belongs ps d e.t)) z in
                inl (y.0, not-true (belongs ps d e.t) y.1))
                (λ (z : (in_loop ps d e.t && not (belongs ps d e.s)) ≡ true).
                let y = and_true (in_loop ps d e.t) (not (belongs ps d e.s)) z in
                inr (y.0, not-true (belongs ps d e.s) y.1))
                (or-true
                (in_loop ps d e.s && not (belongs ps d e.t))
                (in_loop ps d e.t && not (belongs ps d e.s))
                b.1);
          }

      from : Splits ps fs e d → is_split ps fs e d ≡ true
      from p =
          and_intro p.flagged
          (and_intro
          (and_intro (eq-eqb e.kind CARRIED p.carried) (lt-ltb e.s e.t p.forward))
          (one p.one_end))
        where
          one
              : ((in_loop ps d e.s ≡ true) × (belongs ps d e.t ≡ false)) ⊎
              ((in_loop ps d e.t ≡ true) × (belongs ps d e.s ≡ false))
              → has_one_end ps e d ≡ true
          one (inl z) =
              or_left (in_loop ps d e.t && not (belongs ps d e.s)) (and_intro z.0 (ap not z.1))
          one (inr z) =
              or_right (in_loop ps d e.s && not (belongs ps d e.t)) (and_intro z.0 (ap not z.1))

  module _ (flags : AreFlags ps fs) where
    -- such a loop is one of the points
    split_below : (d : ℕ) → length ps ≤ d → is_split ps fs e d ≡ false
    split_below d h = false_by λ z. omega (arith, point_in ps d 0 (flags d ((splits_iff d).0 z).flagged))

    -- the list has these loops
    pub in_one_end : (d : ℕ) → is_in d (one_end_by ps fs e) ≡ is_split ps fs e d
    unfolding one_end_by
    in_one_end d = ⊎_elim
        (λ (z : length ps ≤ d). gaps_of_to (is_split ps fs e) (length ps) 0 d (omega arith) ∙ sym (split_below d z))
        (λ (z : d < length ps). gaps_of_in (is_split ps fs e) (length ps) 0 d (omega arith) (omega arith))
        (le_or (length ps) d)

    -- words with these loops
    words_are
        : (r : List ℕ) → length ps ≤ POINTS → ((d : ℕ) → d < GAPS → holds r d ≡ is_split ps fs e d)
        → gaps_in r ≡ one_end_by ps fs e
    unfolding gaps_in one_end_by
    words_are r few same =
        gaps_of_same (holds r) (is_split ps fs e) GAPS 0 (λ d a l. same d (omega arith)) ∙
        gaps_of_up_to (is_split ps fs e) (length ps) GAPS few (λ d a l. split_below d a)

    -- none where the dependence does not go forward into the next turn
    pub no_one_end
        : (r : List ℕ) → length ps ≤ POINTS → goes_on e ≡ false → ((d : ℕ) → holds r d ≡ false)
        → gaps_in r ≡ one_end_by ps fs e
    unfolding is_split
    no_one_end r few off empty =
        words_are r few (λ d l. empty d ∙ rw off (sym (and_off (is_in d fs))))

    -- those of the flagged loops where it does
    pub one_end_set
        : (ends flagged r : List ℕ) → is_shape ps ≡ true → length ps ≤ POINTS → HasEnds ps ends
        → ((d : ℕ) → holds flagged d ≡ is_in d fs) → goes_on e ≡ true → WithOneEnd ends flagged e.s e.t r
        → gaps_in r ≡ one_end_by ps fs e
    unfolding is_split
    one_end_set ends flagged r shape few table bits on says =
        words_are r few (λ d l. says d l ∙ rw (bits d, on) (go d (is_in d fs) refl))
      where
        go
            : (d : ℕ) (b : Bool) → is_in d fs ≡ b
            → (b && is_one_end d (at ends d) e.s e.t) ≡ (b && has_one_end ps e d)
        go d true h =
            let k = flags d h in
            let end : at ends d ≡ end_of ps d = table d k in
            let after = end-after ps shape d k in
            rw (end, belongs_between ps d e.s after, belongs_between ps d e.t after)
        go d false h = refl
