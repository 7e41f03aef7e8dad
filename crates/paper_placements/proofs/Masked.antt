-- A loop's count as the ones of the placement under the loop's mask.
-- Main statements: `words_tally`, `count_tally`, `count_masked`, `masked_count`.
use mathlib.Core.Path.{◌≡◌, refl, sym, ◌∙◌}
use mathlib.Core.Bool.{Bool, true, false, ◌&&◌}
use mathlib.Core.List.{List}
use Prim.Native.Nat.{ℕ, zero, suc, ◌+◌, ◌*◌, ◌<◌}
use native.Mathlib.Omega.{arith}
use lib.Dec.{eqb}
use lib.ListN.{length, get_or}
use Rattle.laws.specs.Bits.{bit, one, tally}
use Rattle.laws.proofs.Bits.{tally_same, tally_moved, tally_add}
use Rattle.paper_nests.specs.Nests.{Nest}
use Rattle.paper_nests.specs.Loops.{owner_of}
use Rattle.paper_placements.specs.Placements.{loop_count, are_gaps_from}
use Rattle.paper_placements.specs.Words.{GAPS, holds, kept, gaps_of, gaps_in}
use Rattle.paper_placements.specs.Answers.{IsMask, LoopCountSays}
use Rattle.paper_placements.proofs.Words.{in_gaps}
use Rattle.paper_placements.proofs.Lowest.{at_word}
use Rattle.paper_placements.proofs.Rising.{rising_in}

-- the gaps that both words hold, word by word
module _ (ws ms : List ℕ) where
  abbrev both : ℕ → Bool
  both g = holds ws g && holds ms g

  abbrev both_in : ℕ → ℕ → Bool
  both_in k b = bit (get_or ws k 0) b && bit (get_or ms k 0) b

  word_tally : (k : ℕ) → tally (both_in k) 64 0 ≡ tally both 64 (k * 64 + 0)
  word_tally k =
      tally_moved
      (both_in k)
      both
      (k * 64)
      64
      0
      (λ j a b. rw (at_word ws (k * 64 + j) k j refl (omega arith), at_word ms (k * 64 + j) k j refl (omega arith)))

  pub words_tally
      : tally (both_in 0) 64 0 + tally (both_in 1) 64 0 + tally (both_in 2) 64 0 + tally (both_in 3) 64 0 ≡
      tally both GAPS 0
  words_tally =
      let a : tally both 256 0 ≡ tally both 64 0 + tally both 192 64 = tally_add both 64 192 0 in
      let b : tally both 192 64 ≡ tally both 64 64 + tally both 128 128 = tally_add both 64 128 64 in
      let c : tally both 128 128 ≡ tally both 64 128 + tally both 64 192 = tally_add both 64 64 128 in
      omega (arith, a, b, c, word_tally 0, word_tally 1, word_tally 2, word_tally 3)

-- a loop's count, gap by gap
count_of : (n : Nest) (x : ℕ → Bool) (d k g : ℕ) →
    loop_count n (gaps_of x k g) d ≡ tally (λ (i : ℕ). x i && eqb (owner_of n.points i) d) k g
unfolding gaps_of tally
count_of n x d zero g = refl
count_of n x d (suc k) g = go (x g) (eqb (owner_of n.points g) d) refl (count_of n x d k (suc g))
  where
    rest : ℕ
    rest = tally (λ (i : ℕ). x i && eqb (owner_of n.points i) d) k (suc g)

    go
        : (t y : Bool)
        → eqb (owner_of n.points g) d ≡ y
        → loop_count n (gaps_of x k (suc g)) d ≡ rest
        → loop_count n (kept t g (gaps_of x k (suc g))) d ≡ one (t && y) + rest
    go true true e r = rw (e, r)
    go true false e r = rw (e, r)
    go false y e r = omega arith

pub count_tally
    : (n : Nest) (ws : List ℕ) (d : ℕ)
    → loop_count n (gaps_in ws) d ≡ tally (λ (i : ℕ). holds ws i && eqb (owner_of n.points i) d) GAPS 0
unfolding gaps_in
count_tally n ws d = count_of n (holds ws) d GAPS 0

-- 01, "Expected forms by place": four words masked by the loop's gaps; count of ones gives the node's weight
pub count_masked
    : (n : Nest) (ws ms : List ℕ) (d : ℕ)
    → are_gaps_from 0 (length n.points) (gaps_in ws) ≡ true
    → IsMask n.points d ms
    → tally (λ (g : ℕ). holds ws g && holds ms g) GAPS 0 ≡ loop_count n (gaps_in ws) d
count_masked n ws ms d h m =
    tally_same
    (λ (g : ℕ). holds ws g && holds ms g)
    (λ (g : ℕ). holds ws g && eqb (owner_of n.points g) d)
    GAPS
    0
    (λ j a b. go j (omega arith) (holds ws j) refl) ∙
    sym (count_tally n ws d)
  where
    go : (j : ℕ) → j < GAPS → (t : Bool) → holds ws j ≡ t → (t && holds ms j) ≡ (t && eqb (owner_of n.points j) d)
    go j l true e =
        let z = rising_in 0 (length n.points) (gaps_in ws) j h (in_gaps ws j l ∙ e) in
        m j z.0 z.1
    go j l false e = refl

-- so the ones under the mask are the count of the loop in each nest with these points
pub masked_count
    : (ps ws ms : List ℕ) (d r : ℕ)
    → are_gaps_from 0 (length ps) (gaps_in ws) ≡ true
    → IsMask ps d ms
    → r ≡ tally (λ (g : ℕ). holds ws g && holds ms g) GAPS 0
    → LoopCountSays ps d ws r
masked_count ps ws ms d r h m e n same = e ∙ count_masked n ws ms d (rw same h) (rw same m)
