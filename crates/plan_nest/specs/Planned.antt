-- The key of a nest, as words.
-- Main definition: `PlanSays`.
use Rattle.std.specs.Prelude.{◌≡◌, List, ℕ}
use Rattle.paper_nests.specs.Nests.{Nest}
use Rattle.paper_placements.specs.Words.{holds}
use Rattle.plan_method.specs.Home.{key_in}

-- the words hold the gaps of the planner's key
abbrev pub PlanSays : Nest → List ℕ → Type 0
PlanSays n words = (g : ℕ) → holds words g ≡ key_in n.points n.deps g
