-- The search for the lowest gap at or above a place: the rest of its word, then the words after it.
-- Main statements: `Passed`, what a turn keeps; `low_first`, `pass_first`, `low_later`, `pass_later`.
use mathlib.Core.Path.{◌≡◌, sym, ◌∙◌}
use mathlib.Core.Bool.{true, false}
use mathlib.Core.List.{List}
use mathlib.Core.Logic.{⊎_elim}
use Prim.Native.Nat.{ℕ, ◌+◌, ◌-◌, ◌*◌, ◌/◌, ◌%◌, ◌^◌, ◌≤◌, ◌<◌}
use native.Mathlib.Omega.{arith}
use lib.Count.{count_trailing_zeros}
use lib.ListN.{get_or}
use lib.Pow.{shr_le}
use Rattle.laws.specs.Bits.{bit}
use Rattle.laws.proofs.Tests.{le_or, never}
use Rattle.laws.proofs.Bits.{bit_zero, bit_high, bit_shifted, lowest_set}
use Rattle.paper_placements.specs.Words.{GAPS, holds, LowestFrom}

-- a gap in the word that it stands in
pub at_word : (ws : List ℕ) (i k b : ℕ) → i ≡ k * 64 + b → b < 64 → holds ws i ≡ bit (get_or ws k 0) b
unfolding holds
at_word ws i k b e h =
    let p : i / 64 ≡ k = omega arith in
    let q : i % 64 ≡ b = omega arith in
    rw (p, q)

-- the words hold no gap from lo up to i
pub record Passed (ws : List ℕ) (lo i : ℕ) : Type 0 where
  pub far : lo ≤ i
  pub none : (j : ℕ) → lo ≤ j → j < i → holds ws j ≡ false

-- the lowest gap found in the rest of the first word, and in a later one
abbrev pub First : List ℕ → ℕ → Type 0
First ws lo =
    let t = count_trailing_zeros 64 (get_or ws (lo / 64) 0 / 2 ^ (lo % 64)) in
    (lo + t < GAPS) × LowestFrom ws lo (lo + t)

abbrev pub Later : List ℕ → ℕ → ℕ → Type 0
Later ws lo k = let t = count_trailing_zeros 64 (get_or ws k 0) in (k * 64 + t < GAPS) × LowestFrom ws lo (k * 64 + t)

module _ (ws : List ℕ) (fit : (i : ℕ) → get_or ws i 0 < 2 ^ 64) (lo : ℕ) where
  -- the lowest bit of word k from bit b on, after none before it
  found
      : (k b t : ℕ)
      → k < 4
      → Passed ws lo (k * 64 + b)
      → bit (get_or ws k 0) (b + t) ≡ true
      → ((j : ℕ) → j < t → bit (get_or ws k 0) (b + j) ≡ false)
      → (k * 64 + b + t < GAPS) × LowestFrom ws lo (k * 64 + b + t)
  found k b t h p e n = (
    omega (arith, inside),
    record {
      fits = omega (arith, inside);
      held = λ l. (omega (arith, p.far), at_word ws (k * 64 + b + t) k (b + t) (omega arith) inside ∙ e);
      none = none;
    },
  )
    where
      inside : b + t < 64
      inside =
          ⊎_elim
          (λ (z : 64 ≤ b + t). never (sym (bit_high (get_or ws k 0) 64 (b + t) (fit k) z) ∙ e))
          (λ (z : b + t < 64). z)
          (le_or 64 (b + t))

      none : (i : ℕ) → i < GAPS → lo ≤ i → i < k * 64 + b + t → holds ws i ≡ false
      none i g l m =
          ⊎_elim
          (λ (z : k * 64 + b ≤ i).
          let j = i - (k * 64 + b) in
          at_word ws i k (b + j) (omega arith) (omega (arith, inside)) ∙ n j (omega arith))
          (λ (z : i < k * 64 + b). p.none i l z)
          (le_or (k * 64 + b) i)

  -- the rest of the first word, from lo on
  pub low_first
      : lo < GAPS
      → 0 < get_or ws (lo / 64) 0 / 2 ^ (lo % 64)
      → First ws lo
  low_first h p =
      let e : lo ≡ lo / 64 * 64 + lo % 64 = omega arith in
      let w = get_or ws (lo / 64) 0 in
      let v = w / 2 ^ (lo % 64) in
      let l = lowest_set 64 v p (omega (arith, shr_le w (lo % 64), fit (lo / 64))) in
      let t = count_trailing_zeros 64 v in
      let r : (lo / 64 * 64 + lo % 64 + t < GAPS) × LowestFrom ws lo (lo / 64 * 64 + lo % 64 + t) =
      found
      (lo / 64)
      (lo % 64)
      t
      (omega arith)
      (record { far = omega arith; none = λ j a b. absurd (omega arith) })
      (sym (bit_shifted w (lo % 64) t) ∙ l.1.set_there)
      (λ j a. sym (bit_shifted w (lo % 64) j) ∙ l.1.none_below j a) in
      rw (← e) at r

  -- no bit in the rest of the first word
  pub pass_first : lo < GAPS → get_or ws (lo / 64) 0 / 2 ^ (lo % 64) ≤ 0 → Passed ws lo ((lo / 64 + 1) * 64)
  pass_first h e =
      record {
        far = omega arith;
        none =
            λ j a b.
            at_word ws j (lo / 64) (lo % 64 + (j - lo)) (omega arith) (omega arith) ∙
            sym (bit_shifted (get_or ws (lo / 64) 0) (lo % 64) (j - lo)) ∙
            (let z : get_or ws (lo / 64) 0 / 2 ^ (lo % 64) ≡ 0 = omega arith in rw z (bit_zero (j - lo)));
      }

  -- a later word
  pub low_later
      : (k : ℕ)
      → k < 4
      → Passed ws lo (k * 64)
      → 0 < get_or ws k 0
      → Later ws lo k
  low_later k h p q =
      let w = get_or ws k 0 in
      let l = lowest_set 64 w q (fit k) in
      let t = count_trailing_zeros 64 w in
      let e : k * 64 + 0 ≡ k * 64 = omega arith in
      let r : (k * 64 + 0 + t < GAPS) × LowestFrom ws lo (k * 64 + 0 + t) =
      found
      k
      0
      t
      h
      (rw e p)
      (let z : 0 + t ≡ t = omega arith in rw z l.1.set_there)
      (λ j a. let z : 0 + j ≡ j = omega arith in rw z (l.1.none_below j a)) in
      rw e at r

  pub pass_later : (k : ℕ) → Passed ws lo (k * 64) → get_or ws k 0 ≤ 0 → Passed ws lo ((k + 1) * 64)
  pass_later k p e =
      record {
        far = omega (arith, p.far);
        none =
            λ j a b.
            ⊎_elim
            (λ (z : k * 64 ≤ j).
            at_word ws j k (j - k * 64) (omega arith) (omega arith) ∙
            (let y : get_or ws k 0 ≡ 0 = omega arith in rw y (bit_zero (j - k * 64))))
            (λ (z : j < k * 64). p.none j a z)
            (le_or (k * 64) j);
      }
