-- The definitions run: papers of one loop, with and without barred gaps.
-- Main statement: `worked_tries`.
use mathlib.Core.Path.{◌≡◌, refl}
use mathlib.Core.Bool.{true}
use mathlib.Core.List.{List, [], ◌∷◌}
use Prim.Native.Nat.{ℕ}
use Rattle.paper_nests.specs.Nests.{Dep}
use Rattle.paper_nests.proofs.Cases.{forward, carried, paper_R, paper_turn, paper_bare, paper_ring, paper_forward}
use Rattle.paper_placements.specs.Placements.{uncut_from}
use Rattle.paper_placements.specs.Words.{gaps_of}
use Rattle.plan_theorem.specs.ListOrder.{first_in_order}
use Rattle.call_textbook.specs.Tries.{cuts_on, try_at, best_from, textbook_of}

-- 01 03 03 02, and one and three statements more
abbrev points_4 : List ℕ
points_4 = 1 ∷ 3 ∷ 3 ∷ 2 ∷ []

abbrev points_5 : List ℕ
points_5 = 1 ∷ 3 ∷ 3 ∷ 3 ∷ 2 ∷ []

abbrev points_7 : List ℕ
points_7 = 1 ∷ 3 ∷ 3 ∷ 3 ∷ 3 ∷ 3 ∷ 2 ∷ []

-- 110001, 110103
abbrev pub deps_two : List Dep
deps_two = forward 0 1 ∷ forward 1 3 ∷ []

-- 110103, 110203, 110306, 110406
abbrev deps_ends : List Dep
deps_ends = forward 1 3 ∷ forward 2 3 ∷ forward 3 6 ∷ forward 4 6 ∷ []

-- 12000503, 12000401, 110005
abbrev deps_round : List Dep
deps_round = carried 0 5 3 ∷ carried 0 4 1 ∷ forward 0 5 ∷ []

pub record Worked : Type 0 where
  -- each cut lies at the end of an interval; 1, 2 is as small and comes first
  pub two : textbook_of points_4 [] deps_two ≡ 1 ∷ 3 ∷ []
  pub two_other : uncut_from 0 points_4 deps_two (1 ∷ 2 ∷ []) ≡ 0
  pub two_order : first_in_order (1 ∷ 2 ∷ []) (1 ∷ 3 ∷ []) ≡ true
  -- what each first barrier gives: the second is no smaller than the first, the third is that of the first
  pub two_tried : try_at points_4 [] deps_two 2 ≡ 1 ∷ 2 ∷ []
  pub three_tried : try_at points_4 [] deps_two 3 ≡ 1 ∷ 3 ∷ []
  -- three intervals of which each two share a gap
  pub r : textbook_of paper_R.points [] paper_R.deps ≡ 1 ∷ 4 ∷ []
  -- the whole ring, its points apart and the same
  pub whole : textbook_of paper_forward.points [] paper_forward.deps ≡ 1 ∷ []
  pub turn : textbook_of paper_turn.points [] paper_turn.deps ≡ 1 ∷ []
  -- beside the whole ring, an interval that the first gap does not cut
  pub ring : textbook_of paper_ring.points [] paper_ring.deps ≡ 2 ∷ []
  pub ring_first : try_at paper_ring.points [] paper_ring.deps 1 ≡ 1 ∷ 2 ∷ []
  -- equal ends
  pub ends : textbook_of points_7 [] deps_ends ≡ 3 ∷ 6 ∷ []
  -- no dependence
  pub bare : textbook_of paper_bare.points [] paper_bare.deps ≡ []
  -- barred gaps: no first barrier, and the cut goes to the last unbarred gap of its interval
  pub barred_first : textbook_of points_4 (1 ∷ []) (forward 0 2 ∷ forward 1 3 ∷ []) ≡ 2 ∷ []
  pub barred_end : textbook_of points_5 (4 ∷ []) (forward 0 1 ∷ forward 1 4 ∷ []) ≡ 1 ∷ 3 ∷ []
  pub barred_r : textbook_of paper_R.points (4 ∷ []) paper_R.deps ≡ 2 ∷ 6 ∷ []
  pub barred_round : textbook_of points_7 (4 ∷ 1 ∷ 2 ∷ 1 ∷ []) deps_round ≡ 3 ∷ 6 ∷ []

pub worked_tries : Worked
unfolding gaps_of cuts_on try_at best_from
worked_tries =
    record {
      two = refl;
      two_other = refl;
      two_order = refl;
      two_tried = refl;
      three_tried = refl;
      r = refl;
      whole = refl;
      turn = refl;
      ring = refl;
      ring_first = refl;
      ends = refl;
      bare = refl;
      barred_first = refl;
      barred_end = refl;
      barred_r = refl;
      barred_round = refl;
    }
