-- The definitions run: a paper of one loop before paper Q, the blank paper twice, papers with flagged loops, papers at
-- the limits and past them.
-- Main statements: `worked_joint`, `worked_flags`, `worked_limits`.
use mathlib.Core.Path.{◌≡◌, refl}
use mathlib.Core.Bool.{true, false}
use mathlib.Core.List.{List, [], ◌∷◌}
use Prim.Native.Nat.{ℕ, zero, suc}
use Rattle.paper_nests.specs.Nests.{Nest, nest}
use Rattle.paper_nests.specs.Valid.{is_valid}
use Rattle.paper_nests.proofs.Cases.{forward, carried, paper_Q}
use Rattle.paper_order.specs.Trees.{node, bare, beside, tree_of}
use Rattle.paper_placements.specs.Words.{gaps_of}
use Rattle.plan_method.specs.Home.{least_end, reach_of, limit_of, has_at, key_in}
use Rattle.plan_method.specs.Sweep.{need_of, put, step_plain, seek, free, inner, outer, child_at}
use Rattle.plan_method.specs.Sweep.{step_child, next, step, walk, sweep, close, value, least, better, best}
use Rattle.plan_method.specs.Sweep.{child_some, some_of, cost_of, front_of, left_of, choice_of, lay_of}
use Rattle.plan_method.specs.Plan.{table_of, table_from, with_row, no_tables}
use Rattle.plan_method.specs.Plan as Plan
use Rattle.paper_texts.specs.Pieces.{Point, Depend, Flagged}
use Rattle.paper_texts.specs.NestTexts.{blank, point_pieces, dep_pieces, bar_pieces, pieces_of}
use Rattle.plan_theorem.specs.KeyOf.{plain_key, key_of}
use Rattle.plan_theorem.proofs.FirstCases.{paper_either}
use Rattle.call_join.specs.JointNests.{joined, joined_gaps, exceeds}

-- the papers 01 03 03 02 with 110001, 110103 (key 1, 2) and Q (key 2, 6): the second begins at point 5
pub record Worked : Type 0 where
  pub is
      : joined paper_either paper_Q ≡
      nest (1 ∷ 1 ∷ 3 ∷ 3 ∷ 2 ∷ 1 ∷ 3 ∷ 1 ∷ 1 ∷ 3 ∷ 3 ∷ 2 ∷ 3 ∷ 2 ∷ 2 ∷ 2 ∷ [])
      (forward 1 2 ∷ forward 2 4 ∷ forward 6 10 ∷ carried 8 10 9 ∷ forward 9 12 ∷ [])
  pub valid : is_valid (joined paper_either paper_Q) ≡ true
  pub within : exceeds paper_either paper_Q ≡ false
  pub key : key_of (joined paper_either paper_Q) ≡ 2 ∷ 3 ∷ 7 ∷ 11 ∷ []
  pub keys_moved : joined_gaps paper_either (1 ∷ 2 ∷ []) (2 ∷ 6 ∷ []) ≡ 2 ∷ 3 ∷ 7 ∷ 11 ∷ []
  pub tree
      : tree_of (joined paper_either paper_Q) (2 ∷ 3 ∷ 7 ∷ 11 ∷ []) ≡
      node 0 (beside (tree_of paper_either (1 ∷ 2 ∷ [])) (beside (tree_of paper_Q (2 ∷ 6 ∷ [])) bare))
  pub blanks : joined blank blank ≡ nest (1 ∷ 1 ∷ 2 ∷ 1 ∷ 2 ∷ 2 ∷ []) []
  pub blank_key : key_of (joined blank blank) ≡ []

pub worked_joint : Worked
unfolding key_of plain_key gaps_of key_in least_end reach_of limit_of has_at Plan.key_of table_of table_from with_row no_tables need_of put
    step_plain seek free inner outer child_at step_child next step walk sweep close value least better best child_some
    some_of cost_of front_of left_of choice_of lay_of
worked_joint =
    record {
      is = refl;
      valid = refl;
      within = refl;
      key = refl;
      keys_moved = refl;
      tree = refl;
      blanks = refl;
      blank_key = refl;
    }

-- the papers 01 04 03 02 02 with 12010202 and 04 03 02: the flagged DOs of both are flagged in the joint paper
abbrev pub paper_inner : Nest
paper_inner =
    record { points = 1 ∷ 1 ∷ 3 ∷ 2 ∷ 2 ∷ []; deps = carried 1 2 2 ∷ []; barred = []; flagged = 1 ∷ [] }

abbrev pub paper_outer : Nest
paper_outer = record { points = 1 ∷ 3 ∷ 2 ∷ []; deps = []; barred = []; flagged = 0 ∷ [] }

pub record Flags : Type 0 where
  pub flagged : (joined paper_inner paper_outer).flagged ≡ 2 ∷ 6 ∷ []
  pub valid : is_valid (joined paper_inner paper_outer) ≡ true
  pub pieces
      : pieces_of (joined paper_inner paper_outer) ≡
      Point 1 ∷ Point 1 ∷ Flagged ∷ Point 3 ∷ Point 2 ∷ Point 2 ∷
      Flagged ∷ Point 3 ∷ Point 2 ∷ Point 2 ∷ Depend (carried 2 3 3) ∷ []

pub worked_flags : Flags
unfolding point_pieces dep_pieces bar_pieces
worked_flags = record { flagged = refl; valid = refl; pieces = refl }

-- seven loops in one another, and eight
abbrev pub paper_seven : Nest
paper_seven = nest (1 ∷ 1 ∷ 1 ∷ 1 ∷ 1 ∷ 1 ∷ 1 ∷ 2 ∷ 2 ∷ 2 ∷ 2 ∷ 2 ∷ 2 ∷ 2 ∷ []) []

abbrev pub paper_eight : Nest
paper_eight = nest (1 ∷ 1 ∷ 1 ∷ 1 ∷ 1 ∷ 1 ∷ 1 ∷ 1 ∷ 2 ∷ 2 ∷ 2 ∷ 2 ∷ 2 ∷ 2 ∷ 2 ∷ 2 ∷ []) []

-- a loop with k statements
abbrev statements : ℕ → List ℕ
statements zero = 2 ∷ []
statements (suc k) = 3 ∷ statements k

abbrev pub paper_of : ℕ → Nest
paper_of k = nest (1 ∷ statements k) []

-- loops 8 deep and 256 points are within the limits, one more is not
pub record Limits : Type 0 where
  pub deep : (exceeds paper_seven blank ≡ false) × (is_valid (joined paper_seven blank) ≡ true)
  pub too_deep : (exceeds paper_eight blank ≡ true) × (is_valid (joined paper_eight blank) ≡ false)
  pub second_too_deep : (exceeds blank paper_eight ≡ true) × (is_valid (joined blank paper_eight) ≡ false)
  pub points : (exceeds (paper_of 100) (paper_of 150) ≡ false) × (is_valid (joined (paper_of 100) (paper_of 150)) ≡ true)
  pub more_points : exceeds (paper_of 100) (paper_of 151) ≡ true

pub worked_limits : Limits
worked_limits =
    record {
      deep = (refl, refl);
      too_deep = (refl, refl);
      second_too_deep = (refl, refl);
      points = (refl, refl);
      more_points = refl;
    }
