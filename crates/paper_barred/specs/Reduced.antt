-- A nest of one loop whose gaps are the unbarred gaps of another, renumbered: what cuts a dependence there cuts it here.
-- Main definitions: `open_gaps`, `is_shut`, `some_shut`, `is_blocked`, `ring_points`, `reduced_dep`, `reduced`.
use Rattle.std.specs.Prelude.{Bool, false, ◌&&◌, ◌||◌, List, [], ◌∷◌, ℕ, zero, suc, ◌-◌, eqb, leb, length}
use Rattle.laws.specs.Choice.{pick}
use Rattle.paper_nests.specs.Kinds.{DO, ENDDO, STATEMENT, INDEPENDENT, CARRIED}
use Rattle.paper_nests.specs.Nests.{Dep, dep, Nest, nest}
use Rattle.paper_nests.specs.Gaps.{has_gap}
use Rattle.paper_placements.specs.Placements.{is_free}
use Rattle.paper_placements.specs.Words.{gaps_of}
use Rattle.paper_barred.specs.Ranks.{rank}

-- the gaps of a dependence that are not barred
abbrev pub open_gaps : List ℕ → List ℕ → Dep → List ℕ
open_gaps ps bs e = gaps_of (λ g. has_gap ps e g && is_free bs g) (length ps - 1) 1

-- a dependence that has all its gaps barred
abbrev pub is_shut : List ℕ → List ℕ → Dep → Bool
is_shut ps bs e = eqb (length (open_gaps ps bs e)) 0

-- some dependence has all its gaps barred
abbrev pub some_shut : List ℕ → List ℕ → List Dep → Bool
some_shut ps bs [] = false
some_shut ps bs (e ∷ es) = is_shut ps bs e || some_shut ps bs es

-- 02, job 7: some dependence of the nest has all its gaps barred
abbrev pub is_blocked : Nest → Bool
is_blocked n = some_shut n.points n.barred n.deps

-- k statements, then the ENDDO
unfoldable pub statements_to : ℕ → List ℕ
statements_to zero = ENDDO ∷ []
statements_to (suc k) = STATEMENT ∷ statements_to k

-- a loop with the gaps 1 to m; where m is 0, the smallest there is
abbrev pub ring_points : ℕ → List ℕ
ring_points zero = DO ∷ (ENDDO ∷ [])
ring_points (suc k) = DO ∷ statements_to k

-- a dependence carried round a ring of m gaps by points of these ranks: its gaps are 1 to t and s + 1 to m. Where these
-- are all gaps, or one of the two stretches is empty, it is an independent one.
abbrev pub carried_round : ℕ → ℕ → ℕ → Dep
carried_round m s t =
    pick
    (leb s t)
    (dep INDEPENDENT 0 0 m)
    (pick
    (eqb t 0)
    (dep INDEPENDENT 0 s m)
    (pick (eqb s m) (dep INDEPENDENT 0 0 t) (dep CARRIED 0 s t)))

abbrev pub reduced_dep : List ℕ → ℕ → Dep → Dep
reduced_dep bs m e =
    pick
    (eqb e.kind INDEPENDENT)
    (dep INDEPENDENT 0 (rank bs e.s) (rank bs e.t))
    (carried_round m (rank bs e.s) (rank bs e.t))

abbrev pub reduced_deps : List ℕ → ℕ → List Dep → List Dep
reduced_deps bs m [] = []
reduced_deps bs m (e ∷ es) = reduced_dep bs m e ∷ reduced_deps bs m es

-- the nest whose gaps are the unbarred gaps of the points, renumbered
abbrev pub reduced : List ℕ → List ℕ → List Dep → Nest
reduced ps bs ds = let m = rank bs (length ps - 1) in nest (ring_points m) (reduced_deps bs m ds)
