-- The costs of a nest's loops are their counts in the planner's key.
-- Main statements: `plan_gaps`, `costs`.
use mathlib.Core.Path.{◌≡◌, refl, ◌∙◌, ap}
use mathlib.Core.Bool.{true}
use mathlib.Core.List.{List}
use Prim.Native.Nat.{ℕ}
use native.Mathlib.Omega.{arith}
use lib.ListN.{length}
use Rattle.paper_nests.specs.Nests.{Nest}
use Rattle.paper_nests.specs.Valid.{is_shape, is_valid}
use Rattle.paper_nests.proofs.Levels.{point_in}
use Rattle.paper_nests.proofs.Deps.{valid_is, deps_fit}
use Rattle.paper_placements.specs.Placements.{are_gaps_from, loop_count}
use Rattle.paper_placements.specs.Words.{gaps_in}
use Rattle.paper_counts.specs.Tables.{CountsAre}
use Rattle.plan_method.proofs.Instance.{AllFit}
use Rattle.plan_theorem.proofs.KeyGaps.{plain_gaps, planned_words}
use Rattle.argue_key.proofs.Plain as AK
use Rattle.plan_nest.specs.Planned.{PlanSays}
use Rattle.argue_paper.specs.Spelled.{CostsAre}

module _ (n : Nest) (valid : is_valid n ≡ true) where
  shape : is_shape n.points ≡ true
  shape = (valid_is n valid).shape

  fit : AllFit n.points n.deps
  fit = deps_fit n.points n.deps (valid_is n valid).all-deps

  -- the planner's words hold gaps of the nest
  pub plan_gaps : (words : List ℕ) → PlanSays n words →
      are_gaps_from 0 (length n.points) (gaps_in words) ≡ true
  plan_gaps words p = rw (planned_words n words valid p) (plain_gaps n shape fit)

  pub costs : (words counts : List ℕ) → PlanSays n words → CountsAre n.points (gaps_in words) counts →
      CostsAre n counts
  costs words counts p c d h =
      let z = planned_words n words valid p in
      c n refl d (omega (arith, point_in n.points d 0 h, (valid_is n valid).few_points)) ∙
      ap (λ (gs : List ℕ). loop_count n gs d) z ∙ AK.costs n shape fit d h
