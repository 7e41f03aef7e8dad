-- The key of a nest without barred gaps has its argument.
-- Main statements: `costs`, `plain_argued`.
use mathlib.Core.Path.{◌≡◌, ◌∙◌}
use mathlib.Core.Bool.{true}
use mathlib.Core.List.{[]}
use Prim.Native.Nat.{ℕ}
use lib.ListN.{length}
use Rattle.laws.proofs.Tests.{and_intro}
use Rattle.paper_nests.specs.Nests.{Nest}
use Rattle.paper_nests.specs.Loops.{is_do}
use Rattle.paper_nests.specs.Valid.{is_shape, is_valid}
use Rattle.paper_nests.proofs.Levels.{point_in, starts_with_do}
use Rattle.paper_nests.proofs.Deps.{valid_is, deps_fit}
use Rattle.paper_placements.specs.Placements.{loop_count}
use Rattle.plan_method.specs.Sweep.{Tables, IsTable}
use Rattle.plan_method.specs.Plan.{table_of, key_of}
use Rattle.plan_method.specs.Home.{loops_in, lines_in, key_in}
use Rattle.plan_method.proofs.World.{Lawful}
use Rattle.plan_method.proofs.Claim.{count}
use Rattle.plan_method.proofs.Cuts.{in_outermost}
use Rattle.plan_method.proofs.Tables.{table_is}
use Rattle.plan_method.proofs.Theorem as PT
use Rattle.plan_method.proofs.Instance.{world_of, AllFit, lawful}
use Rattle.plan_theorem.specs.KeyOf.{plain_key}
use Rattle.plan_theorem.proofs.KeyGaps.{plain_gaps, in_plain}
use Rattle.plan_theorem.proofs.PlainKey.{fitting_key}
use Rattle.plan_theorem.proofs.Predicates.{member_of, same_count, list_count}
use Rattle.argue_claims.specs.Arguments.{holds}
use Rattle.argue_key.specs.Laps.{plain_argument}
use Rattle.argue_key.proofs.AllClaims.{all_claims}

module _ (n : Nest) (shape : is_shape n.points ≡ true) (fit : AllFit n.points n.deps) where
  abbrev pub T : Tables
  T = table_of (loops_in n.points) (lines_in n.points n.deps) (length n.points)

  pub laws : Lawful (world_of n.points n.deps) (lines_in n.points n.deps)
  laws = lawful n.points n.deps shape fit

  pub table : IsTable (loops_in n.points) (lines_in n.points n.deps) T
  table = table_is (loops_in n.points) laws.of-loops (lines_in n.points n.deps) (length n.points)
      (λ d h. point_in n.points d 0 h)

  -- the key has the table's cost at every loop
  laid : (m : ℕ) → is_do n.points m ≡ true → count (loops_in n.points) (key_in n.points n.deps) m ≡ T.cost m
  unfolding key_in key_of
  laid m h =
      ((PT.laid (world_of n.points n.deps) (lines_in n.points n.deps) laws T table 0
      (starts_with_do n.points shape)
      ).done m (in_outermost n.points shape m h)).exact

  pub costs : (m : ℕ) → is_do n.points m ≡ true → loop_count n (plain_key n) m ≡ T.cost m
  costs m h =
      list_count n (plain_key n) m shape (plain_gaps n shape fit) h ∙
      (same_count n.points (member_of (plain_key n)) (key_in n.points n.deps) m (in_plain n shape fit) ∙ laid m h)

  pub fitting_argued : n.barred ≡ [] → holds n (plain_key n) (plain_argument n.points n.deps) ≡ true
  unfolding plain_argument
  fitting_argued none =
      and_intro (fitting_key n shape fit none).correct (all_claims n (plain_key n) laws fit T table costs)

pub plain_argued : (n : Nest) → is_valid n ≡ true → n.barred ≡ [] →
    holds n (plain_key n) (plain_argument n.points n.deps) ≡ true
plain_argued n valid none =
    let v = valid_is n valid in
    fitting_argued n v.shape (deps_fit n.points n.deps v.all-deps) none
