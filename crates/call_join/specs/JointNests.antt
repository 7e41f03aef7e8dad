-- Two nests joined: a new outer loop round the first, then the second, all point numbers moved along.
-- Main definitions: `moved_dep`, `moved_gaps`, `joined`, `joined_gaps`, `Papers`, `deepest`, `exceeds`.
use Rattle.std.specs.Prelude.{◌≡◌, Bool, true, ◌||◌, List, [], ◌∷◌, ◌++◌, ℕ, suc, ◌+◌, max, eqb, ltb, length}
use Rattle.laws.specs.Choice.{pick}
use Rattle.paper_nests.specs.Kinds.{DO, ENDDO, INDEPENDENT, POINTS, DEPTH, DEPENDENCES}
use Rattle.paper_nests.specs.Nests.{Dep, dep, Nest}
use Rattle.paper_nests.specs.Loops.{deeper}
use Rattle.paper_nests.specs.Valid.{is_valid}

-- a dependence whose points are moved along by k; an independent one has no d to move
abbrev pub moved_dep : ℕ → Dep → Dep
moved_dep k e = dep e.kind (pick (eqb e.kind INDEPENDENT) e.d (k + e.d)) (k + e.s) (k + e.t)

abbrev pub moved_deps : ℕ → List Dep → List Dep
moved_deps k [] = []
moved_deps k (e ∷ es) = moved_dep k e ∷ moved_deps k es

-- gaps moved along by k; the same of points
abbrev pub moved_gaps : ℕ → List ℕ → List ℕ
moved_gaps k [] = []
moved_gaps k (g ∷ gs) = (k + g) ∷ moved_gaps k gs

-- the points of the joint nest: the first nest begins at point 1, the second after it
abbrev pub joined_points : List ℕ → List ℕ → List ℕ
joined_points ps qs = DO ∷ (ps ++ (qs ++ (ENDDO ∷ [])))

abbrev pub second_at : Nest → ℕ
second_at n = suc (length n.points)

-- a new outer loop round the first nest, then the second, all point numbers moved along, the first paper's
-- dependences before the second's; nothing is barred, and flagged is what was flagged
abbrev pub joined : Nest → Nest → Nest
joined n m =
    record {
      points = joined_points n.points m.points;
      deps = moved_deps 1 n.deps ++ moved_deps (second_at n) m.deps;
      barred = [];
      flagged = moved_gaps 1 n.flagged ++ moved_gaps (second_at n) m.flagged;
    }

-- a placement of each nest, as a placement of the joint nest
abbrev pub joined_gaps : Nest → List ℕ → List ℕ → List ℕ
joined_gaps n a b = moved_gaps 1 a ++ moved_gaps (second_at n) b

-- two papers that may be joined: each is valid, with nothing barred
pub record Papers (n m : Nest) : Type 0 where
  pub first : is_valid n ≡ true
  pub second : is_valid m ≡ true
  pub first_unbarred : n.barred ≡ []
  pub second_unbarred : m.barred ≡ []

-- how deep the points go, from depth d
abbrev pub deepest_from : ℕ → List ℕ → ℕ
deepest_from d [] = d
deepest_from d (p ∷ ps) = max d (deepest_from (deeper d p) ps)

abbrev pub deepest : List ℕ → ℕ
deepest ps = deepest_from 0 ps

-- number 18: the joint nest would exceed a limit
abbrev pub exceeds : Nest → Nest → Bool
exceeds n m =
    ltb POINTS (length (joined n m).points) ||
    (ltb DEPENDENCES (length (joined n m).deps) || ltb DEPTH (deepest (joined n m).points))
