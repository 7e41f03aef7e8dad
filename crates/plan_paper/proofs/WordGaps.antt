-- The gaps that words hold, where a test says which of 1 to k these are.
-- Main statement: `words_gaps`.
use mathlib.Core.Path.{◌≡◌, sym, ◌∙◌}
use mathlib.Core.Bool.{Bool, false}
use mathlib.Core.List.{List}
use mathlib.Core.Logic.{◌⊎◌, inl, inr, ⊎_elim}
use Prim.Native.Nat.{ℕ, suc, ◌≤◌, ◌<◌}
use native.Mathlib.Omega.{arith}
use Rattle.laws.specs.Choice.{is_in}
use Rattle.laws.proofs.Tests.{le_or}
use Rattle.paper_placements.specs.Words.{GAPS, holds, gaps_of, gaps_in}
use Rattle.paper_placements.proofs.Words.{gaps_of_from, gaps_of_in, gaps_of_to, gaps_of_rising}
use Rattle.paper_placements.proofs.Words.{in_gaps, in_gaps_beyond, gaps_rising}
use Rattle.paper_placements.proofs.Rising.{rising_equal}

module _
    (x : ℕ → Bool) (k : ℕ) (ws : List ℕ) (few : k < GAPS)
    (zero_not : holds ws 0 ≡ false)
    (within : (i : ℕ) → 0 < i → i ≤ k → holds ws i ≡ x i)
    (beyond : (i : ℕ) → k < i → i < GAPS → holds ws i ≡ false)
  where
    not_beyond : (i : ℕ) → k < i → is_in i (gaps_in ws) ≡ false
    not_beyond i l = ⊎_elim
        (λ (z : GAPS ≤ i). in_gaps_beyond ws i z)
        (λ (z : i < GAPS). in_gaps ws i z ∙ beyond i l z)
        (le_or GAPS i)

    same : (i : ℕ) → is_in i (gaps_in ws) ≡ is_in i (gaps_of x k 1)
    same i = go (le_or 1 i) (le_or i k)
      where
        go : (1 ≤ i) ⊎ (i < 1) → (i ≤ k) ⊎ (k < i) → is_in i (gaps_in ws) ≡ is_in i (gaps_of x k 1)
        go (inl a) (inl b) =
            in_gaps ws i (omega arith) ∙ within i a b ∙ sym (gaps_of_in x k 1 i a (omega arith))
        go (inl a) (inr b) = not_beyond i b ∙ sym (gaps_of_to x k 1 i (omega arith))
        go (inr a) b =
            let z : i ≡ 0 = omega arith in
            rw z (in_gaps ws 0 (omega arith) ∙ zero_not ∙ sym (gaps_of_from x k 1 0 (omega arith)))

    pub words_gaps : gaps_in ws ≡ gaps_of x k 1
    words_gaps =
        rising_equal 0 (suc k) (gaps_in ws) (gaps_of x k 1)
        (gaps_rising ws (suc k) zero_not (λ i l m. beyond i m l))
        (gaps_of_rising x (suc k) k 1 0 (λ i a b c. (omega arith, omega arith)))
        same
