-- The ring laid out twice in a line, so that the line behind each first barrier is a stretch of it, and where the
-- dependences end there.
-- Main definitions: `gap_at`, `last_place`, `last_free`, `start_at`, `latest_of`, `cut_places`, `least_from`.
use Rattle.std.specs.Prelude.{◌&&◌, List, [], ◌∷◌, ℕ, zero, suc, ◌+◌, ◌-◌, min, max, eqb, ltb, leb, length}
use Rattle.laws.specs.Choice.{pick}
use Rattle.paper_nests.specs.Kinds.{INDEPENDENT}
use Rattle.paper_nests.specs.Nests.{Dep}
use Rattle.paper_placements.specs.Words.{kept}
use Rattle.paper_placements.specs.Placements.{is_free}

-- as many places as a table has: those of the longest ring, laid out twice, and place 0
abbrev pub PLACES : ℕ
PLACES = 512

-- the gap at a place: places 1 to m are the gaps of a ring of m, places m + 1 to 2m are they again
abbrev pub gap_at : ℕ → ℕ → ℕ
gap_at m p = pick (leb p m) p (p - m)

abbrev pub gaps_at : ℕ → List ℕ → List ℕ
gaps_at m [] = []
gaps_at m (p ∷ ps) = gap_at m p ∷ gaps_at m ps

-- the gaps of a dependence lie at the places s + 1 to this one; a carried one's go on past the end of the ring, once
-- round it at most
abbrev pub last_place : ℕ → Dep → ℕ
last_place m e = pick (eqb e.kind INDEPENDENT) e.t (m + min e.s e.t)

-- the last unbarred place at or before p; 0 for none
unfoldable pub last_free : List ℕ → ℕ → ℕ → ℕ
last_free bs m zero = 0
last_free bs m (suc p) = pick (is_free bs (gap_at m (suc p))) (suc p) (last_free bs m p)

-- where a dependence starts that ends at place p, its last unbarred place or that place once round the ring; 0 where
-- it ends elsewhere or has no unbarred gap. The last unbarred place at or before another is given.
abbrev pub start_at : (ℕ → ℕ) → ℕ → Dep → ℕ → ℕ
start_at free m e p =
    let u = free (last_place m e) in
    pick
    (leb (suc e.s) u && eqb p u)
    (suc e.s)
    (pick (leb (suc e.s) u && eqb p (u + m)) (suc e.s + m) 0)

-- the latest start of those that end at place p; 0 for none
abbrev pub latest_of : (ℕ → ℕ) → ℕ → List Dep → ℕ → ℕ
latest_of free m [] p = 0
latest_of free m (e ∷ es) p = max (start_at free m e p) (latest_of free m es p)

-- the cuts at the k places from p on, where the last was at `last`: a place at which some dependence ends that starts
-- behind it
unfoldable pub cut_places : (ℕ → ℕ) → ℕ → ℕ → ℕ → List ℕ
cut_places latest last zero p = []
cut_places latest last (suc k) p =
    let t = ltb last (latest p) in
    kept t p (cut_places latest (pick t p last) k (suc p))

-- the cuts behind a first barrier g, up to g again
abbrev pub places_behind : (ℕ → ℕ) → ℕ → ℕ → List ℕ
places_behind latest m g = cut_places latest g (m - 1) (suc g)

abbrev pub cuts_behind : (ℕ → ℕ) → ℕ → ℕ → ℕ
cuts_behind latest m g = length (places_behind latest m g)

-- of the numbers listed that with the least count below `least`, the first of equals; `best` for none
unfoldable pub least_from : (ℕ → ℕ) → ℕ → ℕ → List ℕ → ℕ
least_from count best least [] = best
least_from count best least (g ∷ gs) =
    let t = ltb (count g) least in
    least_from count (pick t g best) (pick t (count g) least) gs
