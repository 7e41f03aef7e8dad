-- The definitions run: the nest of WHY, under several turns, and which lists of turns fit.
-- Main statements: `worked_calls`, `once_fewer`, `worked_turns`.
use mathlib.Core.Path.{◌≡◌, refl}
use mathlib.Core.Bool.{true, false}
use mathlib.Core.List.{[], ◌∷◌}
use Rattle.paper_nests.specs.Nests.{Nest, nest}
use Rattle.paper_nests.specs.Valid.{is_valid}
use Rattle.paper_nests.proofs.Cases.{forward}
use Rattle.paper_placements.specs.Placements.{is_correct}
use Rattle.paper_placements.specs.Words.{gaps_of}
use Rattle.plan_method.specs.Home.{least_end, reach_of, limit_of, has_at, key_in}
use Rattle.plan_method.specs.Sweep.{need_of, put, step_plain, seek, free, inner, outer, child_at}
use Rattle.plan_method.specs.Sweep.{step_child, next, step, walk, sweep, close, value, least, better, best}
use Rattle.plan_method.specs.Sweep.{child_some, some_of, cost_of, front_of, left_of, choice_of, lay_of}
use Rattle.plan_method.specs.Plan.{table_of, table_from, with_row, no_tables}
use Rattle.plan_method.specs.Plan as Plan
use Rattle.plan_theorem.specs.KeyOf.{plain_key, key_of}
use Rattle.run_barriers.specs.Calls.{CALLS, dos_before, times_from, calls_in, calls_of, turns_fit}

-- 01 03 01 03 03 03 02 03 02 with 110104, 110307
abbrev pub paper_once : Nest
paper_once = nest (1 ∷ 3 ∷ 1 ∷ 3 ∷ 3 ∷ 3 ∷ 2 ∷ 3 ∷ 2 ∷ []) (forward 1 4 ∷ forward 3 7 ∷ [])

-- its key is 2, 7; gap 4 alone cuts both dependences, inside
pub record Worked : Type 0 where
  pub valid : is_valid paper_once ≡ true
  pub key : key_of paper_once ≡ 2 ∷ 7 ∷ []
  pub inside : is_correct paper_once (4 ∷ []) ≡ true
  pub key_calls : calls_of paper_once (3 ∷ 2 ∷ []) (2 ∷ 7 ∷ []) ≡ 6
  pub inside_calls : calls_of paper_once (3 ∷ 2 ∷ []) (4 ∷ []) ≡ 6
  pub more_turns : calls_of paper_once (3 ∷ 5 ∷ []) (4 ∷ []) ≡ 15

pub worked_calls : Worked
unfolding plain_key key_of gaps_of key_in least_end reach_of limit_of has_at Plan.key_of table_of table_from with_row no_tables
    need_of put step_plain seek free inner outer child_at step_child next step walk sweep close value least better best
    child_some some_of cost_of front_of left_of choice_of lay_of dos_before times_from calls_in
worked_calls =
    record {
      valid = refl;
      key = refl;
      inside = refl;
      key_calls = refl;
      inside_calls = refl;
      more_turns = refl;
    }

-- with one turn inside the key has more: two turns are needed
pub once_fewer :
    (calls_of paper_once (1 ∷ 1 ∷ []) (2 ∷ 7 ∷ []) ≡ 2) × (calls_of paper_once (1 ∷ 1 ∷ []) (4 ∷ []) ≡ 1)
unfolding dos_before times_from calls_in
once_fewer = (refl, refl)

-- turns that fit the nest, and lists that do not: of 1 inside, of 0, of 17, one too short, one too long
pub record Lists : Type 0 where
  pub fits : turns_fit paper_once (3 ∷ 2 ∷ []) ≡ true
  pub one_outside : turns_fit paper_once (1 ∷ 16 ∷ []) ≡ true
  pub one_inside : turns_fit paper_once (3 ∷ 1 ∷ []) ≡ false
  pub none_outside : turns_fit paper_once (0 ∷ 2 ∷ []) ≡ false
  pub too_many : turns_fit paper_once (3 ∷ 17 ∷ []) ≡ false
  pub too_many_outside : turns_fit paper_once (17 ∷ 2 ∷ []) ≡ false
  pub too_short : turns_fit paper_once (3 ∷ []) ≡ false
  pub too_long : turns_fit paper_once (3 ∷ 2 ∷ 2 ∷ []) ≡ false
  pub most : CALLS ≡ 1095216660480

pub worked_turns : Lists
unfolding dos_before
worked_turns =
    record {
      fits = refl;
      one_outside = refl;
      one_inside = refl;
      none_outside = refl;
      too_many = refl;
      too_many_outside = refl;
      too_short = refl;
      too_long = refl;
      most = refl;
    }
