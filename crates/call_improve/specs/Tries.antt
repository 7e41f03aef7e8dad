-- A try (job 13): a barrier more, then the other barriers less that have become needless.
-- Main definitions: `free_of`, `taken_away`, `try_at`.
use Rattle.std.specs.Prelude.{not, List, [], ◌∷◌, ℕ, ◌-◌, eqb, length}
use Rattle.laws.specs.Choice.{pick, is_in}
use Rattle.paper_nests.specs.Nests.{Nest}
use Rattle.paper_placements.specs.Placements.{uncut}
use Rattle.paper_placements.specs.GapLists.{with_gap, without}
use Rattle.paper_placements.specs.Words.{gaps_of}

-- the gaps that have no barrier, rising
abbrev pub free_of : Nest → List ℕ → List ℕ
free_of n x = gaps_of (λ g. not (is_in g x)) (length n.points - 1) 1

-- x after a look at each of the barriers listed, one after the other: it goes if what is left cuts every dependence
unfoldable pub taken_away : Nest → List ℕ → List ℕ → List ℕ
taken_away n [] x = x
taken_away n (h ∷ hs) x = let y = without h x in taken_away n hs (pick (eqb (uncut n y) 0) y x)

-- a try at gap g: a barrier there, then a look at each barrier that was there before, from the lowest on
abbrev pub try_at : Nest → List ℕ → ℕ → List ℕ
try_at n x g = taken_away n x (with_gap g x)
