-- A floor under the calls of every correct placement (job 13).
-- Main definitions: `cheapest`, `floor_from`, `floor_of`.
use Rattle.std.specs.Prelude.{List, [], ◌∷◌, ◌++◌, not, ℕ, ◌+◌, leb}
use Rattle.laws.specs.Choice.{pick, when}
use Rattle.paper_nests.specs.Nests.{Dep, Nest}
use Rattle.paper_placements.specs.Placements.{cuts}
use Rattle.run_barriers.specs.Calls.{times_at}
use Rattle.call_gaps.specs.Says.{gaps_had}

-- the calls of the cheapest gap of a list; 0 where it has none
unfoldable pub cheapest : List ℕ → List ℕ → List ℕ → ℕ
cheapest ps ts [] = 0
cheapest ps ts (g ∷ []) = times_at ps ts g
cheapest ps ts (g ∷ (h ∷ gs)) =
    let r = cheapest ps ts (h ∷ gs) in
    pick (leb (times_at ps ts g) r) (times_at ps ts g) r

-- of the dependences in order, those are taken that have no gap in common with any taken before; each adds the calls of
-- its cheapest gap. Here the gaps of those taken before are listed
unfoldable pub floor_from : List ℕ → List ℕ → List ℕ → List Dep → ℕ
floor_from ps ts taken [] = 0
floor_from ps ts taken (e ∷ es) =
    let shared = cuts ps e taken in
    when (not shared) (cheapest ps ts (gaps_had ps e)) +
    floor_from ps ts (pick shared taken (gaps_had ps e ++ taken)) es

abbrev pub floor_of : Nest → List ℕ → ℕ
floor_of n ts = floor_from n.points ts [] n.deps
