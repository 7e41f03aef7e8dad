-- The loops around a gap, and the test that a dependence has a gap.
-- Main definitions: `AreAround`, `GapSays`.
use Rattle.std.specs.Prelude.{◌≡◌, Bool, true, false, List, ℕ, ◌<◌, get_or}
use Rattle.paper_nests.specs.declared.Dependence as DE
use Rattle.paper_nests.specs.Kinds.{INDEPENDENT}
use Rattle.paper_nests.specs.Loops.{is_do, is_around}
use Rattle.paper_nests.specs.Gaps.{has_gap}
use Rattle.paper_nests.specs.Stored.{dep_in}

-- the table says of each DO whether its loop is around the gap
abbrev pub AreAround : List ℕ → ℕ → List Bool → Type 0
AreAround ps g table = (d : ℕ) → is_do ps d ≡ true → get_or table d false ≡ is_around ps g d

-- r says whether the dependence has the gap, for any points in which `around` is told rightly of the loop that carries
-- it and that loop's DO stands before its source
abbrev pub GapSays : DE.Dependence → ℕ → Bool → Bool → Type 0
GapSays e g around r =
    (ps : List ℕ) →
    ((e.kind ≡ INDEPENDENT → ⊥) → (e.d < e.s) × (around ≡ is_around ps g e.d)) →
    r ≡ has_gap ps (dep_in e) g
