-- Tables over the gaps.
-- Main definitions: `HasFree`, `HasRanks`.
use Rattle.std.specs.Prelude.{◌≡◌, List, ℕ, ◌<◌}
use Rattle.laws.specs.Bits.{one}
use Rattle.laws.specs.Entries.{at}
use Rattle.paper_nests.specs.Kinds.{POINTS}
use Rattle.paper_placements.specs.Placements.{is_free}
use Rattle.paper_barred.specs.Ranks.{rank}

-- 1 where the gap is not barred, else 0
abbrev pub HasFree : List ℕ → List ℕ → Type 0
HasFree bs xs = (g : ℕ) → g < POINTS → at xs g ≡ one (is_free bs g)

-- how many gaps up to it are not barred
abbrev pub HasRanks : List ℕ → List ℕ → Type 0
HasRanks bs xs = (g : ℕ) → g < POINTS → at xs g ≡ rank bs g
