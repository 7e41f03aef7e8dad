-- The loops on which a placement relies to cut a dependence: those that it alone has listed. Where every barrier that
-- cuts it is inside a loop that is foreign to it, these are such loops with a barrier that cuts it.
-- Main definitions: `of_number`, `relied_at`.
use Rattle.std.specs.Prelude.{List, [], ◌∷◌, ℕ, zero, suc}
use Rattle.paper_nests.specs.Nests.{Dep, Nest}
use Rattle.call_missing.specs.Listed.{listed_by}

-- what dependence i has; nothing where there is no such dependence
abbrev pub of_number : (Dep → List ℕ) → List Dep → ℕ → List ℕ
of_number has [] i = []
of_number has (e ∷ es) zero = has e
of_number has (e ∷ es) (suc i) = of_number has es i

-- those that dependence i of a nest has listed for the placement gs, by their DOs, rising
abbrev pub relied_at : Nest → List ℕ → ℕ → List ℕ
relied_at n gs i = of_number (listed_by n gs) n.deps i
