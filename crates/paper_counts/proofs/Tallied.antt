-- The counts of all loops, gap by gap: each barrier counts at the loop of its gap.
-- Main definition: `Tallied`, what a turn keeps. Main statements: `tally_start`, `tally_on`, `tally_done`.
use mathlib.Core.Path.{◌≡◌, refl, sym, ap, ◌∙◌}
use mathlib.Core.Bool.{Bool, true, false, ◌&&◌}
use mathlib.Core.List.{List}
use Prim.Native.Nat.{ℕ, zero, suc, ◌+◌, ◌-◌, ◌≤◌, ◌<◌}
use native.Mathlib.Omega.{arith}
use lib.Dec.{eqb}
use lib.ListN.{length, set, length-set}
use borrow.Author.Tests.{eq-eqb, ne_eqb}
use Rattle.laws.specs.Bits.{one, tally}
use Rattle.laws.specs.Entries.{at}
use Rattle.laws.proofs.Bits.{tally_add, tally_le}
use Rattle.laws.proofs.Stores.{stored}
use Rattle.laws.proofs.Tests.{false_by}
use Rattle.paper_nests.specs.Kinds.{POINTS}
use Rattle.paper_nests.specs.Loops.{owner_of}
use Rattle.paper_placements.specs.Placements.{are_gaps_from, loop_count}
use Rattle.paper_placements.specs.Words.{GAPS, holds, gaps_in}
use Rattle.paper_placements.proofs.Words.{in_gaps}
use Rattle.paper_placements.proofs.Masked.{count_tally}
use Rattle.paper_placements.proofs.Rising.{rising_in}
use Rattle.paper_counts.specs.Tables.{CountsAre}

-- the placement holds gap g, which belongs to loop d
abbrev pub counted : List ℕ → List ℕ → ℕ → ℕ → Bool
counted ps ws d g = holds ws g && eqb (owner_of ps g) d

-- the barriers below gap g are counted
pub record Tallied (ps ws : List ℕ) (g : ℕ) (counts : List ℕ) : Type 0 where
  pub long : length counts ≡ POINTS
  pub sums : (d : ℕ) → d < POINTS → at counts d ≡ tally (counted ps ws d) g 0

-- one place more at the end of a range
tally_more : (f : ℕ → Bool) (g : ℕ) → tally f (g + 1) 0 ≡ tally f g 0 + one (f g)
unfolding tally
tally_more f g =
    let z : 0 + g ≡ g = omega arith in
    let y : tally f (g + 1) 0 ≡ tally f g 0 + tally f 1 g = rw z at (tally_add f g 1 0) in
    omega arith

-- no place of a range
tally_none : (f : ℕ → Bool) (k i : ℕ) → ((j : ℕ) → i ≤ j → j < i + k → f j ≡ false) → tally f k i ≡ 0
unfolding tally
tally_none f zero i h = refl
tally_none f (suc k) i h =
    rw
    (h i (omega arith) (omega arith))
    (omega (arith, tally_none f k (suc i) (λ j l m. h j (omega arith) (omega arith))))

module _ (ps ws : List ℕ) where
  pub tally_start : (counts : List ℕ) → length counts ≡ POINTS → ((d : ℕ) → at counts d ≡ 0) → Tallied ps ws 0 counts
  unfolding tally
  tally_start counts l z = record { long = l; sums = λ d h. z d }

  module _ (g : ℕ) (counts : List ℕ) (p : Tallied ps ws g counts) where
    -- no count exceeds the gaps passed
    pub tally_few : (d : ℕ) → d < POINTS → at counts d ≤ g
    tally_few d h = omega (arith, p.sums d h, tally_le (counted ps ws d) g 0)

    pub tally_on :
        (o b : ℕ) → o ≡ owner_of ps g → o < POINTS → b ≡ one (holds ws g) →
        Tallied ps ws (g + 1) (set counts o (at counts o + b))
    tally_on o b e h q =
        record {
          long = length-set counts o (at counts o + b) ∙ p.long;
          sums = λ d l. stored counts o (at counts o + b) d (tally (counted ps ws d) (g + 1) 0) (omega (arith, p.long))
              (λ i. here d l i)
              (λ n. p.sums d l ∙ sym (elsewhere d n));
        }
      where
        one_of : (t : Bool) → one (t && true) ≡ one t
        one_of true = refl
        one_of false = refl

        none_of : (t : Bool) → one (t && false) ≡ 0
        none_of true = refl
        none_of false = refl

        here : (d : ℕ) → d < POINTS → d ≡ o → at counts o + b ≡ tally (counted ps ws d) (g + 1) 0
        here d l i =
            let y : eqb (owner_of ps g) d ≡ true = eq-eqb (owner_of ps g) d (sym e ∙ sym i) in
            let x : one (counted ps ws d g) ≡ one (holds ws g) = rw y (one_of (holds ws g)) in
            let z : at counts o ≡ at counts d = ap (at counts) (sym i) in
            omega (arith, tally_more (counted ps ws d) g, p.sums d l)

        elsewhere : (d : ℕ) → (d ≡ o → ⊥) → tally (counted ps ws d) (g + 1) 0 ≡ tally (counted ps ws d) g 0
        elsewhere d n =
            let y : eqb (owner_of ps g) d ≡ false = ne_eqb (owner_of ps g) d (λ z. n (sym z ∙ sym e)) in
            let x : one (counted ps ws d g) ≡ 0 = rw y (none_of (holds ws g)) in
            omega (arith, tally_more (counted ps ws d) g)

    -- the gaps behind the last point are not held
    pub tally_done :
        length ps ≤ POINTS → are_gaps_from 0 (length ps) (gaps_in ws) ≡ true → g ≡ length ps →
        CountsAre ps (gaps_in ws) counts
    tally_done few gaps e n same d l =
        let f = counted ps ws d in
        let z : GAPS ≡ length ps + (GAPS - length ps) = omega arith in
        let y : tally f GAPS 0 ≡ tally f (length ps) 0 + tally f (GAPS - length ps) (0 + length ps) =
        ap (λ (k : ℕ). tally f k 0) z ∙ tally_add f (length ps) (GAPS - length ps) 0 in
        let x : tally f (GAPS - length ps) (0 + length ps) ≡ 0 =
        tally_none f (GAPS - length ps) (0 + length ps) (λ j m i. beyond j (omega arith) (omega arith)) in
        let w : loop_count n (gaps_in ws) d ≡ tally f GAPS 0 = rw (← same) (count_tally n ws d) in
        omega (arith, p.sums d l, ap (λ (k : ℕ). tally f k 0) e)
      where
        beyond : (j : ℕ) → length ps ≤ j → j < GAPS → counted ps ws d j ≡ false
        beyond j m i =
            let free : holds ws j ≡ false =
            false_by (λ z. omega (arith, (rising_in 0 (length ps) (gaps_in ws) j gaps (in_gaps ws j i ∙ z)).1)) in
            rw free
