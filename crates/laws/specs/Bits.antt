-- Bits of a word, and how many places of a range a test holds at.
-- Main definitions: `bit`, `one`, `tally`.
use Rattle.std.specs.Prelude.{Bool, true, false, ℕ, zero, suc, ◌+◌, ◌/◌, ◌%◌, ◌^◌, eqb}

-- bit b of the word is set
unfoldable pub bit : ℕ → ℕ → Bool
bit v b = eqb (v / 2 ^ b % 2) 1

-- 1 where the test holds
abbrev pub one : Bool → ℕ
one true = 1
one false = 0

-- at how many of the k places from i on the test holds
unfoldable pub tally : (ℕ → Bool) → ℕ → ℕ → ℕ
tally f zero i = 0
tally f (suc k) i = one (f i) + tally f k (suc i)
