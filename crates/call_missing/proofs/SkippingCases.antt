-- The definitions run: papers with flagged loops, and which of these are listed for a placement.
-- Main statements: `listed_cases`, `nested_cases`.
use mathlib.Core.Path.{◌≡◌, refl}
use mathlib.Core.Bool.{true}
use mathlib.Core.List.{List, [], ◌∷◌}
use Prim.Native.Nat.{ℕ}
use Rattle.paper_nests.specs.Nests.{Dep, Nest, nest}
use Rattle.paper_nests.specs.Valid.{is_valid}
use Rattle.paper_nests.proofs.Cases.{forward, carried}
use Rattle.paper_placements.specs.Words.{gaps_of}
use Rattle.plan_method.specs.Home.{least_end, reach_of, limit_of, has_at, key_in}
use Rattle.plan_method.specs.Sweep.{need_of, put, step_plain, seek, free, inner, outer, child_at}
use Rattle.plan_method.specs.Sweep.{step_child, next, step, walk, sweep, close, value, least, better, best}
use Rattle.plan_method.specs.Sweep.{child_some, some_of, cost_of, front_of, left_of, choice_of, lay_of}
use Rattle.plan_method.specs.Plan.{table_of, table_from, with_row, no_tables}
use Rattle.plan_method.specs.Plan as Plan
use Rattle.plan_theorem.specs.KeyOf.{plain_key, key_of}
use Rattle.call_missing.specs.Foreign.{is_foreign, in_foreign}
use Rattle.call_missing.specs.Listed.{cuts_inside, cuts_outside, is_listed_by, is_listed, listed_of}

-- 01 03 04 03 03 02 03 02 with 12020403 and one dependence more: loop 2 may not run
abbrev points : List ℕ
points = 1 ∷ 3 ∷ 1 ∷ 3 ∷ 3 ∷ 2 ∷ 3 ∷ 2 ∷ []

abbrev paper_over : Nest
paper_over = nest points (carried 2 4 3 ∷ forward 1 6 ∷ [])

abbrev over : Dep → List ℕ → List ℕ
over e gs = listed_of points (carried 2 4 3 ∷ e ∷ []) (2 ∷ []) gs

-- a dependence over the loop that only barriers inside it cut: listed; the gap before the ENDDO is inside, that before
-- the DO and that after the ENDDO are not; a dependence from the loop's own DO or to its own ENDDO, or from or to a
-- point inside: the loop is not foreign to it
pub record Worked : Type 0 where
  pub valid : is_valid paper_over ≡ true
  pub key : key_of paper_over ≡ 3 ∷ []
  pub inside : over (forward 1 6) (3 ∷ []) ≡ 2 ∷ []
  pub before_enddo : over (forward 1 6) (5 ∷ []) ≡ 2 ∷ []
  pub before_too : over (forward 1 6) (2 ∷ 3 ∷ []) ≡ []
  pub after_too : over (forward 1 6) (3 ∷ 6 ∷ []) ≡ []
  pub outside_uncut : over (forward 1 6) (1 ∷ 3 ∷ 7 ∷ []) ≡ 2 ∷ []
  pub from_do : over (forward 2 6) (3 ∷ []) ≡ []
  pub to_enddo : over (forward 1 5) (3 ∷ []) ≡ []
  pub from_inside : over (forward 3 6) (5 ∷ []) ≡ []
  pub to_inside : over (forward 1 4) (3 ∷ []) ≡ []
  pub round_outer : over (carried 0 6 1) (3 ∷ []) ≡ []
  pub forward_round : over (carried 0 1 6) (3 ∷ []) ≡ 2 ∷ []
  pub not_flagged : listed_of points (forward 1 6 ∷ []) [] (3 ∷ []) ≡ []

pub listed_cases : Worked
unfolding plain_key key_of gaps_of key_in least_end reach_of limit_of has_at Plan.key_of table_of table_from with_row no_tables need_of put
    step_plain seek free inner outer child_at step_child next step walk sweep close value least better best child_some
    some_of cost_of front_of left_of choice_of lay_of is_foreign in_foreign cuts_inside cuts_outside is_listed_by is_listed listed_of
listed_cases =
    record {
      valid = refl;
      key = refl;
      inside = refl;
      before_enddo = refl;
      before_too = refl;
      after_too = refl;
      outside_uncut = refl;
      from_do = refl;
      to_enddo = refl;
      from_inside = refl;
      to_inside = refl;
      round_outer = refl;
      forward_round = refl;
      not_flagged = refl;
    }

-- 04 03 04 04 03 02 02 04 03 02 03 02 with 11010a: loop 3 inside loop 2, loop 7 beside it; the outermost, though
-- flagged, is foreign to nothing
abbrev nested_points : List ℕ
nested_points = 1 ∷ 3 ∷ 1 ∷ 1 ∷ 3 ∷ 2 ∷ 2 ∷ 1 ∷ 3 ∷ 2 ∷ 3 ∷ 2 ∷ []

abbrev among : List ℕ → List ℕ → List ℕ
among fs gs = listed_of nested_points (forward 1 10 ∷ []) fs gs

-- a barrier inside two flagged loops has both listed; of two loops side by side the one without a barrier is not; a
-- barrier in a loop that is not flagged is outside; a gap of loop 2 that is not in loop 3 has loop 2 alone listed
pub record WorkedNested : Type 0 where
  pub valid : is_valid (nest nested_points (forward 1 10 ∷ [])) ≡ true
  pub both : among (0 ∷ 2 ∷ 3 ∷ 7 ∷ []) (4 ∷ []) ≡ 2 ∷ 3 ∷ []
  pub inner_alone : among (3 ∷ []) (4 ∷ []) ≡ 3 ∷ []
  pub outer_alone : among (2 ∷ []) (4 ∷ []) ≡ 2 ∷ []
  pub outer_gap : among (0 ∷ 2 ∷ 3 ∷ 7 ∷ []) (6 ∷ []) ≡ 2 ∷ []
  pub side_by_side : among (0 ∷ 2 ∷ 3 ∷ 7 ∷ []) (4 ∷ 8 ∷ []) ≡ 2 ∷ 3 ∷ 7 ∷ []
  pub in_some_other : among (7 ∷ 3 ∷ []) (4 ∷ 8 ∷ []) ≡ 3 ∷ 7 ∷ []
  pub plain_loop : among (2 ∷ 3 ∷ []) (4 ∷ 8 ∷ []) ≡ []
  pub outermost : among (0 ∷ []) (4 ∷ []) ≡ []

pub nested_cases : WorkedNested
unfolding gaps_of is_foreign in_foreign cuts_inside cuts_outside is_listed_by is_listed listed_of
nested_cases =
    record {
      valid = refl;
      both = refl;
      inner_alone = refl;
      outer_alone = refl;
      outer_gap = refl;
      side_by_side = refl;
      in_some_other = refl;
      plain_loop = refl;
      outermost = refl;
    }
