-- 02, job 6: papers with several keys of equal cost, of which the key is the first in list order, and what a planner
-- takes that keeps demand 3 and not the rule.
-- Main definitions: `paper_either`, `paper_crossed`. Main statements: `first_taken`, `others_excluded`.
use mathlib.Core.Path.{◌≡◌, refl}
use mathlib.Core.Bool.{true, false}
use mathlib.Core.List.{List, [], ◌∷◌}
use Prim.Native.Nat.{ℕ}
use Rattle.laws.specs.Choice.{is_in}
use Rattle.laws.proofs.Tests.{never}
use Rattle.paper_nests.specs.Nests.{Nest, nest}
use Rattle.paper_nests.specs.Valid.{is_valid}
use Rattle.paper_nests.proofs.Cases.{forward, paper_P, paper_R}
use Rattle.paper_order.specs.Keys.{IsKey}
use Rattle.paper_placements.specs.Placements.{are_gaps}
use Rattle.paper_order.specs.Verdicts.{Best, mark_of}
use Rattle.paper_placements.specs.Words.{gaps_of}
use Rattle.paper_placements.proofs.Cuts.{avoids_none}
use Rattle.paper_barred.proofs.Blocked.{unbarred_open}
use Rattle.plan_method.specs.Home.{least_end, reach_of, limit_of, has_at, key_in}
use Rattle.plan_method.specs.Sweep.{need_of, put, step_plain, seek, free, inner, outer, child_at}
use Rattle.plan_method.specs.Sweep.{step_child, next, step, walk, sweep, close, value, least, better, best}
use Rattle.plan_method.specs.Sweep.{child_some, some_of, cost_of, front_of, left_of, choice_of, lay_of}
use Rattle.plan_method.specs.Plan.{table_of, table_from, with_row, no_tables}
use Rattle.plan_method.specs.Plan as Plan
use Rattle.plan_theorem.specs.KeyOf.{plain_key, key_of}
use Rattle.plan_theorem.specs.OneKey.{IsFirstKey}
use Rattle.plan_theorem.proofs.KeyIsKey.{key_is_key}
use Rattle.plan_theorem.proofs.KeyCases.{computed_keys}
use Rattle.plan_theorem.proofs.Marking.{best_iff_key}

-- 01 03 03 02 with 110001, 110103: beside gap 1, gap 3 serves as well as 2
abbrev pub paper_either : Nest
paper_either = nest (1 ∷ 3 ∷ 3 ∷ 2 ∷ []) (forward 0 1 ∷ forward 1 3 ∷ [])

-- 01 01 03 02 02 with 110002, 110103, 110204: gaps 1, 3 or 2, 4. Loop 1 has the gaps 2 and 3, so 2, 4 comes first in it
abbrev pub paper_crossed : Nest
paper_crossed = nest (1 ∷ 1 ∷ 3 ∷ 2 ∷ 2 ∷ []) (forward 0 2 ∷ forward 1 3 ∷ forward 2 4 ∷ [])

either_is : key_of paper_either ≡ 1 ∷ 2 ∷ []
unfolding plain_key key_of gaps_of key_in least_end reach_of limit_of has_at Plan.key_of table_of table_from with_row no_tables
    need_of put step_plain seek free inner outer child_at step_child next step walk sweep close value least better best
    child_some some_of cost_of front_of left_of choice_of lay_of
either_is = refl

crossed_is : key_of paper_crossed ≡ 1 ∷ 3 ∷ []
unfolding plain_key key_of gaps_of key_in least_end reach_of limit_of has_at Plan.key_of table_of table_from with_row no_tables
    need_of put step_plain seek free inner outer child_at step_child next step walk sweep close value least better best
    child_some some_of cost_of front_of left_of choice_of lay_of
crossed_is = refl

-- a placement that is marked Best beside the key is a key, where nothing is barred
other_key
    : (n : Nest) (key gs : List ℕ)
    → is_valid n ≡ true
    → n.barred ≡ []
    → key_of n ≡ key
    → are_gaps n gs ≡ true
    → mark_of n key gs ≡ Best
    → IsKey n gs
other_key n key gs valid none e gaps m =
    (best_iff_key n valid (unbarred_open n valid none) gs gaps (avoids_none n.barred none gs)).0 (rw e m)

-- papers with two keys, and the key that is taken
pub record FirstTaken : Type 0 where
  pub of_either : key_of paper_either ≡ 1 ∷ 2 ∷ []
  pub either_other : IsKey paper_either (1 ∷ 3 ∷ [])
  pub of_crossed : key_of paper_crossed ≡ 1 ∷ 3 ∷ []
  pub crossed_other : IsKey paper_crossed (2 ∷ 4 ∷ [])
  pub of_R : key_of paper_R ≡ 1 ∷ 4 ∷ []
  pub R-other : IsKey paper_R (2 ∷ 4 ∷ [])
  -- "inside P, loop 1 still takes 5, not 3"
  pub P-takes-5 : is_in 5 (key_of paper_P) ≡ true
  pub P-not-3 : is_in 3 (key_of paper_P) ≡ false

pub first_taken : FirstTaken
first_taken =
    record {
      of_either = either_is;
      either_other = other_key paper_either (1 ∷ 2 ∷ []) (1 ∷ 3 ∷ []) refl refl either_is refl refl;
      of_crossed = crossed_is;
      crossed_other = other_key paper_crossed (1 ∷ 3 ∷ []) (2 ∷ 4 ∷ []) refl refl crossed_is refl refl;
      of_R = computed_keys.of_R;
      R-other = other_key paper_R (1 ∷ 4 ∷ []) (2 ∷ 4 ∷ []) refl refl computed_keys.of_R refl refl;
      P-takes-5 = rw computed_keys.of_P;
      P-not-3 = rw computed_keys.of_P;
    }

-- keys that are not the key
pub record OthersExcluded : Type 0 where
  -- the last of equals taken instead of the first
  pub last_of_equals : IsFirstKey paper_either (1 ∷ 3 ∷ []) → ⊥
  -- first only inside the loops
  pub first_inside : IsFirstKey paper_crossed (2 ∷ 4 ∷ []) → ⊥

pub others_excluded : OthersExcluded
others_excluded =
    record {
      last_of_equals = λ k. never (k.first (1 ∷ 2 ∷ []) (rw either_is at either_key));
      first_inside = λ k. never (k.first (1 ∷ 3 ∷ []) (rw crossed_is at crossed_key));
    }
  where
    either_key : IsKey paper_either (key_of paper_either)
    either_key = key_is_key paper_either refl (unbarred_open paper_either refl refl)

    crossed_key : IsKey paper_crossed (key_of paper_crossed)
    crossed_key = key_is_key paper_crossed refl (unbarred_open paper_crossed refl refl)
