-- The bits of `^`.
-- Main statement: `bit-xor`.
use mathlib.Core.Path.{◌≡◌, refl}
use mathlib.Core.Bool.{Bool, true, false, not}
use Prim.Native.Nat.{ℕ, ◌/◌, ◌%◌, ◌^◌}
use native.Mathlib.Omega.{arith}
use lib.Dec.{eqb}
use lib.Bits.{bit_xor, xor_add_and, xor_shr}
use borrow.Author.Tests.{eqb-true, eqb-false, eq-eqb, ne_eqb}
use Rattle.laws.specs.Choice.{pick}
use Rattle.laws.specs.Bits.{bit}

-- the lowest digit is that of the sum
xor_odd : (a b : ℕ) → eqb (bit_xor a b % 2) 1 ≡ pick (eqb (b % 2) 1) (not (eqb (a % 2) 1)) (eqb (a % 2) 1)
xor_odd a b = go (eqb (a % 2) 1) (eqb (b % 2) 1) refl refl
  where
    go : (s t : Bool) → eqb (a % 2) 1 ≡ s → eqb (b % 2) 1 ≡ t → eqb (bit_xor a b % 2) 1 ≡ pick t (not s) s
    go true true p q =
        let x = eqb-true (a % 2) 1 p in
        let y = eqb-true (b % 2) 1 q in
        ne_eqb (bit_xor a b % 2) 1 (λ z. omega (arith, xor_add_and a b))
    go true false p q =
        let x = eqb-true (a % 2) 1 p in
        eq-eqb (bit_xor a b % 2) 1 (omega (arith, xor_add_and a b, eqb-false (b % 2) 1 q))
    go false true p q =
        let y = eqb-true (b % 2) 1 q in
        eq-eqb (bit_xor a b % 2) 1 (omega (arith, xor_add_and a b, eqb-false (a % 2) 1 p))
    go false false p q =
        ne_eqb (bit_xor a b % 2) 1
        (λ z. omega (arith, xor_add_and a b, eqb-false (a % 2) 1 p, eqb-false (b % 2) 1 q))

-- a bit of `^` is turned over where the second word has it
pub bit-xor : (a b i : ℕ) → bit (bit_xor a b) i ≡ pick (bit b i) (not (bit a i)) (bit a i)
unfolding bit
bit-xor a b i = rw (xor_shr a b i) (xor_odd (a / 2 ^ i) (b / 2 ^ i))
