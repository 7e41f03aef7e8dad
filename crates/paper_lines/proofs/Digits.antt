-- Digits of a line and the bytes that they spell.
-- Main statements: `hex_at`, `frame_length`, `frame_at`, `frame_past`, `digits_parts`.
use mathlib.Core.Path.{◌≡◌, refl, sym}
use mathlib.Core.Bool.{true, ◌&&◌}
use mathlib.Core.List.{List, [], ◌∷◌}
use Prim.Native.Nat.{ℕ, zero, suc, ◌+◌, ◌*◌, ◌/◌, ◌%◌, ◌≤◌, ◌<◌}
use native.Mathlib.Omega.{arith}
use lib.Dec.{eqb, leb}
use lib.ListN.{length, get_or, get_or-eq_default}
use borrow.Author.Tests.{leb-true, eqb-true}
use Rattle.laws.proofs.Tests.{and_true}
use Rattle.paper_lines.specs.Lines.{is_hex, value_of, all_hex, is_digits, frame_of}

-- all of a line, byte by byte
pub hex_at : (l : List ℕ) (i : ℕ) → all_hex l ≡ true → i < length l → is_hex (get_or l i 0) ≡ true
hex_at [] i h k = absurd (omega arith)
hex_at (b ∷ l) zero h k = (and_true (is_hex b) (all_hex l) h).0
hex_at (b ∷ l) (suc i) h k = hex_at l i (and_true (is_hex b) (all_hex l) h).1 (omega arith)

-- the frame that a line spells
pub frame_length : (l : List ℕ) → length (frame_of l) ≡ length l / 2
unfolding frame_of
frame_length [] = refl
frame_length (a ∷ []) = refl
frame_length (a ∷ (b ∷ s)) = omega (arith, frame_length s)

pub frame_at : (l : List ℕ) (i : ℕ) → i < length l / 2
    → get_or (frame_of l) i 0 ≡ 16 * value_of (get_or l (2 * i) 0) + value_of (get_or l (2 * i + 1) 0)
unfolding frame_of
frame_at [] i h = absurd (omega arith)
frame_at (a ∷ []) i h = absurd (omega arith)
frame_at (a ∷ (b ∷ s)) zero h = refl
frame_at (a ∷ (b ∷ s)) (suc i) h =
    let z : 2 * suc i ≡ suc (suc (2 * i)) = omega arith in
    let y : suc (suc (2 * i)) + 1 ≡ suc (suc (2 * i + 1)) = omega arith in
    let x : i < length s / 2 = omega arith in
    rw (z, y) (frame_at s i x)

pub frame_past : (l : List ℕ) (i : ℕ) → length l / 2 ≤ i → 0 ≡ get_or (frame_of l) i 0
frame_past l i h =
    let z : length (frame_of l) ≤ i = omega (arith, frame_length l) in
    sym (get_or-eq_default (frame_of l) 0 z)

-- the parts of the test
pub record Digits (l : List ℕ) : Type 0 where
  pub two : 2 ≤ length l
  pub hex : all_hex l ≡ true

pub digits_parts : (l : List ℕ) → is_digits l ≡ true → Digits l
digits_parts l h =
    let p = and_true (leb 1 (length l)) (eqb (length l % 2) 0 && all_hex l) h in
    let q = and_true (eqb (length l % 2) 0) (all_hex l) p.1 in
    record {
      two = omega (arith, leb-true 1 (length l) p.0, eqb-true (length l % 2) 0 q.0);
      hex = q.1;
    }
