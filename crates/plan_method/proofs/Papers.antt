-- The definitions run: keys of the papers in document 01, computed from their nests, and P's costs.
-- Main statements: `papers`, `costs_P`.
use mathlib.Core.Path.{◌≡◌, refl}
use mathlib.Core.Bool.{Bool}
use mathlib.Core.List.{List, [], ◌∷◌}
use Prim.Native.Nat.{ℕ, zero, suc}
use lib.ListN.{length}
use Rattle.laws.specs.Choice.{pick}
use Rattle.paper_nests.specs.Nests.{Nest}
use Rattle.paper_nests.proofs.Cases.{paper_P, paper_Q, paper_R, paper_ring, paper_inner}
use Rattle.plan_method.specs.Sweep.{need_of, put, step_plain, seek, free, inner, outer, child_at}
use Rattle.plan_method.specs.Sweep.{step_child, next, step, walk, sweep, close, value, least, better, best}
use Rattle.plan_method.specs.Sweep.{child_some, some_of, cost_of, front_of, left_of, choice_of, lay_of}
use Rattle.plan_method.specs.Plan.{key_of, table_of, table_from, with_row, no_tables}
use Rattle.plan_method.specs.Home.{least_end, reach_of, limit_of, has_at, loops_in, lines_in, key_in}

-- the gaps of a placement among the k from g on, rising
abbrev gaps_from : (ℕ → Bool) → ℕ → ℕ → List ℕ
gaps_from x zero g = []
gaps_from x (suc k) g = pick (x g) (g ∷ gaps_from x k (suc g)) (gaps_from x k (suc g))

abbrev key_gaps : Nest → List ℕ
key_gaps n = gaps_from (key_in n.points n.deps) (length n.points) 0

abbrev cost : Nest → ℕ → ℕ
cost n = (table_of (loops_in n.points) (lines_in n.points n.deps) (length n.points)).cost

pub record Keys : Type 0 where
  pub of_P : key_gaps paper_P ≡ 5 ∷ 11 ∷ []
  pub of_Q : key_gaps paper_Q ≡ 2 ∷ 6 ∷ []
  pub of_R : key_gaps paper_R ≡ 1 ∷ 4 ∷ []
  pub of_ring : key_gaps paper_ring ≡ 2 ∷ []
  pub of_inner : key_gaps paper_inner ≡ 2 ∷ []

pub papers : Keys
unfolding key_in least_end reach_of limit_of has_at key_of table_of table_from with_row no_tables need_of put step_plain seek free
    inner outer child_at step_child next step walk sweep close value least better best child_some some_of cost_of front_of
    left_of choice_of lay_of
papers = record { of_P = refl; of_Q = refl; of_R = refl; of_ring = refl; of_inner = refl }

-- the barriers of P at the loops 0, 1 and 7
pub costs_P : (cost paper_P 0 ≡ 0) × (cost paper_P 1 ≡ 1) × (cost paper_P 7 ≡ 1)
unfolding least_end reach_of limit_of has_at table_of table_from with_row no_tables need_of put step_plain seek free inner outer
    child_at step_child next step walk sweep close value least better best child_some some_of cost_of front_of left_of choice_of
    lay_of
costs_P = (refl, refl, refl)
