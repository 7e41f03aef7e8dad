-- A placement as four words of 64 bits: gap g is bit g mod 64 of word g / 64.
-- Main definitions: `holds`, `gaps_of`, `gaps_in`, `LowestFrom`, `LowestIn`.
use Rattle.std.specs.Prelude.{◌≡◌, Bool, true, false, List, [], ◌∷◌, ℕ, zero, suc, ◌/◌, ◌%◌, ◌≤◌, ◌<◌, get_or}
use Rattle.laws.specs.Bits.{bit}

-- 01, "The nest and its gaps": a placement is 256 bits
abbrev pub GAPS : ℕ
GAPS = 256

-- the words hold gap g
unfoldable pub holds : List ℕ → ℕ → Bool
holds ws g = bit (get_or ws (g / 64) 0) (g % 64)

-- the gap in front of the others where the test holds
abbrev pub kept : Bool → ℕ → List ℕ → List ℕ
kept true g gs = g ∷ gs
kept false g gs = gs

-- the gaps among the k from g on at which the test holds, rising
unfoldable pub gaps_of : (ℕ → Bool) → ℕ → ℕ → List ℕ
gaps_of x zero g = []
gaps_of x (suc k) g = kept (x g) g (gaps_of x k (suc g))

-- the gaps that the words hold, rising
unfoldable pub gaps_in : List ℕ → List ℕ
gaps_in ws = gaps_of (holds ws) GAPS 0

-- r is the lowest gap at or above lo that the words hold; 256 for none
pub record LowestFrom (ws : List ℕ) (lo r : ℕ) : Type 0 where
  pub fits : r ≤ GAPS
  pub held : r < GAPS → (lo ≤ r) × (holds ws r ≡ true)
  pub none : (i : ℕ) → i < GAPS → lo ≤ i → i < r → holds ws i ≡ false

-- r is the lowest gap of those with y that the words hold; 256 for none
pub record LowestIn (ws : List ℕ) (y : ℕ → Bool) (r : ℕ) : Type 0 where
  pub fits : r ≤ GAPS
  pub held : r < GAPS → (y r ≡ true) × (holds ws r ≡ true)
  pub none : (i : ℕ) → i < GAPS → y i ≡ true → i < r → holds ws i ≡ false
