-- The loop of every gap, and the count of every loop, as tables.
-- Main definitions: `OwnersAre`, `CountsAre`.
use Rattle.std.specs.Prelude.{◌≡◌, List, ℕ, ◌<◌, length}
use Rattle.laws.specs.Entries.{at}
use Rattle.paper_nests.specs.Kinds.{POINTS}
use Rattle.paper_nests.specs.Nests.{Nest}
use Rattle.paper_nests.specs.Loops.{owner_of}
use Rattle.paper_placements.specs.Placements.{loop_count}

-- the table has the loop of every gap
abbrev pub OwnersAre : List ℕ → List ℕ → Type 0
OwnersAre ps owners = (g : ℕ) → g < length ps → at owners g ≡ owner_of ps g

-- the table has every loop's count by its DO, in each nest with these points
abbrev pub CountsAre : List ℕ → List ℕ → List ℕ → Type 0
CountsAre ps gs counts = (n : Nest) → n.points ≡ ps → (d : ℕ) → d < POINTS → at counts d ≡ loop_count n gs d
