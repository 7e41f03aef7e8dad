-- Sets of gaps that cut every dependence and avoid barred gaps, and the smallest of them.
-- Main definitions: `CorrectSet`, `SmallestSet`.
use Rattle.std.specs.Prelude.{◌≡◌, true, List, ℕ, ◌≤◌, length}
use Rattle.laws.specs.Members.{Among}
use Rattle.paper_nests.specs.Nests.{Dep}
use Rattle.paper_placements.specs.Placements.{cuts, are_gaps_from, avoids}

-- a correct set without barred gaps, written as the rising list of its gaps
pub record CorrectSet (ps bs : List ℕ) (ds : List Dep) (gs : List ℕ) : Type 0 where
  pub gaps : are_gaps_from 0 (length ps) gs ≡ true
  pub avoiding : avoids bs gs ≡ true
  pub cut : (e : Dep) → Among e ds → cuts ps e gs ≡ true

-- none of them has fewer gaps
pub record SmallestSet (ps bs : List ℕ) (ds : List Dep) (gs : List ℕ) : Type 0 where
  pub correct : CorrectSet ps bs ds gs
  pub smallest : (hs : List ℕ) → CorrectSet ps bs ds hs → length gs ≤ length hs
