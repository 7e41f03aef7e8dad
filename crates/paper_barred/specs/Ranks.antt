-- The gaps that are not barred, renumbered from 1.
-- Main definitions: `rank`, `ranks`, `unranked`.
use Rattle.std.specs.Prelude.{◌&&◌, List, [], ◌∷◌, ℕ, zero, suc, ◌+◌}
use Rattle.laws.specs.Choice.{is_in}
use Rattle.laws.specs.Bits.{one}
use Rattle.paper_placements.specs.Placements.{is_free}
use Rattle.paper_placements.specs.Words.{gaps_of}

-- how many gaps of 1 to g are not barred
unfoldable pub rank : List ℕ → ℕ → ℕ
rank bs zero = 0
rank bs (suc g) = one (is_free bs (suc g)) + rank bs g

-- a placement with each gap renumbered
abbrev pub ranks : List ℕ → List ℕ → List ℕ
ranks bs [] = []
ranks bs (g ∷ gs) = rank bs g ∷ ranks bs gs

-- the gaps of 1 to k that are not barred and whose rank is in the list
abbrev pub unranked : List ℕ → ℕ → List ℕ → List ℕ
unranked bs k rs = gaps_of (λ g. is_free bs g && is_in (rank bs g) rs) k 1
