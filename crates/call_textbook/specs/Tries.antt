-- The textbook method: each gap is tried as a first barrier, the line behind it cut greedily, the smallest result kept.
-- Main definitions: `line_after`, `ends_at`, `cuts_on`, `try_at`, `textbook_of`.
use Rattle.std.specs.Prelude.{Bool, false, ◌&&◌, ◌||◌, not, List, [], ◌∷◌, ◌++◌, ℕ, suc, ◌-◌, ltb, length}
use Rattle.laws.specs.Choice.{pick}
use Rattle.paper_nests.specs.Nests.{Dep}
use Rattle.paper_nests.specs.Gaps.{has_gap}
use Rattle.paper_placements.specs.Placements.{cuts, is_free}
use Rattle.paper_placements.specs.GapLists.{with_gap}
use Rattle.paper_placements.specs.Words.{kept, gaps_of}

-- the unbarred gaps behind gap g round the ring: g + 1 to n - 1, then 1 to g - 1
abbrev pub line_after : List ℕ → List ℕ → ℕ → List ℕ
line_after ps bs g = gaps_of (is_free bs) (length ps - suc g) (suc g) ++ gaps_of (is_free bs) (g - 1) 1

-- the dependences that lack gap g
abbrev pub lacking : List ℕ → ℕ → List Dep → List Dep
lacking ps g [] = []
lacking ps g (e ∷ es) = let r = lacking ps g es in pick (has_gap ps e g) r (e ∷ r)

-- the dependence ends at gap h of a line that goes on with hs: h is the last of its gaps there
abbrev pub ends_at : List ℕ → ℕ → List ℕ → Dep → Bool
ends_at ps h hs e = has_gap ps e h && not (cuts ps e hs)

abbrev pub some_ends : List ℕ → ℕ → List ℕ → List Dep → Bool
some_ends ps h hs [] = false
some_ends ps h hs (e ∷ es) = ends_at ps h hs e || some_ends ps h hs es

-- the line is cut greedily at each first interval end. A barrier goes to the first gap at which one of the
-- dependences ends; those that have this gap are cut, and so on with the others behind it.
unfoldable pub cuts_on : List ℕ → List ℕ → List Dep → List ℕ
cuts_on ps [] ds = []
cuts_on ps (h ∷ hs) ds =
    let t = some_ends ps h hs ds in
    kept t h (cuts_on ps hs (pick t (lacking ps h ds) ds))

-- the gaps in rising order
abbrev pub rising : List ℕ → List ℕ
rising [] = []
rising (g ∷ gs) = with_gap g (rising gs)

-- gap g tried as a first barrier
unfoldable pub try_at : List ℕ → List ℕ → List Dep → ℕ → List ℕ
try_at ps bs ds g = rising (g ∷ cuts_on ps (line_after ps bs g) (lacking ps g ds))

-- the smaller of two results, the first of equals
abbrev pub smaller : List ℕ → List ℕ → List ℕ
smaller a b = pick (ltb (length b) (length a)) b a

-- the smallest result of the gaps tried in this order, the first tried of equals; none without a gap to try
unfoldable pub best_from : (ℕ → List ℕ) → List ℕ → List ℕ → List ℕ
best_from result best [] = best
best_from result best (g ∷ gs) = best_from result (smaller best (result g)) gs

abbrev pub best_of : (ℕ → List ℕ) → List ℕ → List ℕ
best_of result [] = []
best_of result (g ∷ gs) = best_from result (result g) gs

-- each gap is tried, in rising order, but for barred ones; a paper with no dependence needs no barrier
abbrev pub textbook_of : List ℕ → List ℕ → List Dep → List ℕ
textbook_of ps bs [] = []
textbook_of ps bs (e ∷ es) = best_of (try_at ps bs (e ∷ es)) (gaps_of (is_free bs) (length ps - 1) 1)
