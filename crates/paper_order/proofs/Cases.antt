-- A placement's counts in order of the loops' DO, and the cost trees of P's and Q's keys (001, figures 4 and 7), computed
-- from the definitions. The starred cases are a table of crate plan_theorem (`starred_keys`).
-- Main definition: `counts_of`. Main statements: `tree_of_P`, `tree_of_Q`.
use mathlib.Core.Path.{◌≡◌, refl}
use mathlib.Core.List.{List, [], ◌∷◌, ◌++◌}
use Prim.Native.Nat.{ℕ, zero, suc}
use lib.ListN.{length}
use Rattle.laws.specs.Choice.{pick}
use Rattle.paper_nests.specs.Nests.{Nest}
use Rattle.paper_nests.specs.Loops.{is_do}
use Rattle.paper_nests.proofs.Cases.{paper_P, paper_Q}
use Rattle.paper_placements.specs.Placements.{loop_count}
use Rattle.paper_order.specs.Trees.{node, bare, beside, tree_of}

-- a placement's counts, in order of the loops' DO
abbrev pub counts_from : ℕ → ℕ → Nest → List ℕ → List ℕ
counts_from zero d n gs = []
counts_from (suc f) d n gs = pick (is_do n.points d) (loop_count n gs d ∷ []) [] ++ counts_from f (suc d) n gs

abbrev pub counts_of : Nest → List ℕ → List ℕ
counts_of n gs = counts_from (length n.points) 0 n gs

-- of P's key, 0 over 1 and 1; of Q's, 1 over 0 over 1
pub tree_of_P : tree_of paper_P (5 ∷ 11 ∷ []) ≡ node 0 (beside (node 1 bare) (beside (node 1 bare) bare))
tree_of_P = refl

pub tree_of_Q : tree_of paper_Q (2 ∷ 6 ∷ []) ≡ node 1 (beside (node 0 (beside (node 1 bare) bare)) bare)
tree_of_Q = refl
