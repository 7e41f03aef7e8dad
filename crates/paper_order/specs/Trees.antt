-- Cost trees and the tree order of 001, definition 1.
-- Main definitions: `Tree`, `tree_of`, `same_tree`, `as_good_tree`.
use Rattle.std.specs.Prelude.{Bool, true, false, ◌&&◌, ◌||◌, not, List, [], ◌∷◌, ◌++◌, ℕ, zero, suc, eqb, leb, length}
use Rattle.laws.specs.Choice.{pick}
use Rattle.paper_nests.specs.Nests.{Nest}
use Rattle.paper_nests.specs.Loops.{is_do, owner_of, in_loop}
use Rattle.paper_placements.specs.Placements.{loop_count}

-- a tree: a count, and the trees right under it from left to right
mutual
  pub data Tree : Type 0 where
    node : ℕ → Forest → Tree

  pub data Forest : Type 0 where
    bare : Forest
    beside : Tree → Forest → Forest

-- the same shape with the same counts
abbrev mutual
  pub same_tree : Tree → Tree → Bool
  same_tree (node c ts) (node k us) = eqb c k && same_forest ts us

  pub same_forest : Forest → Forest → Bool
  same_forest bare bare = true
  same_forest bare (beside u us) = false
  same_forest (beside t ts) bare = false
  same_forest (beside t ts) (beside u us) = same_tree t u && same_forest ts us

-- 01, "Which placement is better" (001, definition 1): each subtree right under T's root is as good or better than the
-- matching one of U and, where all of these are equal, T's root count is at most U's
abbrev mutual
  pub as_good_tree : Tree → Tree → Bool
  as_good_tree (node c ts) (node k us) = as_good_forest ts us && (not (same_forest ts us) || leb c k)

  pub as_good_forest : Forest → Forest → Bool
  as_good_forest bare bare = true
  as_good_forest bare (beside u us) = false
  as_good_forest (beside t ts) bare = false
  as_good_forest (beside t ts) (beside u us) = as_good_tree t u && as_good_forest ts us

-- x is a loop directly inside loop d: the gap before its DO belongs to d
abbrev pub is_right_in : List ℕ → ℕ → ℕ → Bool
is_right_in ps d x = is_do ps x && (in_loop ps d x && eqb (owner_of ps x) d)

-- the loops directly inside d, in text order, among the f points from x on
abbrev pub right_in_from : ℕ → ℕ → List ℕ → ℕ → List ℕ
right_in_from zero x ps d = []
right_in_from (suc f) x ps d = pick (is_right_in ps d x) (x ∷ []) [] ++ right_in_from f (suc x) ps d

abbrev pub loops_right_in : List ℕ → ℕ → List ℕ
loops_right_in ps d = right_in_from (length ps) 0 ps d

-- the trees of the loops listed
abbrev pub forest_of : (ℕ → Tree) → List ℕ → Forest
forest_of tree [] = bare
forest_of tree (x ∷ xs) = beside (tree x) (forest_of tree xs)

-- 01, "Which placement is better": the cost is a tree, one node a loop, each with the loop's count; here of loop d, for
-- loops at most h deep
abbrev pub tree_from : ℕ → Nest → List ℕ → ℕ → Tree
tree_from zero n gs d = node (loop_count n gs d) bare
tree_from (suc h) n gs d = node (loop_count n gs d) (forest_of (tree_from h n gs) (loops_right_in n.points d))

-- a nest is no deeper than it has points
abbrev pub tree_of : Nest → List ℕ → Tree
tree_of n gs = tree_from (length n.points) n gs 0
