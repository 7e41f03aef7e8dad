-- The tree of a joint paper: a root with count 0 over the two old trees.
-- Main statements: `part_tree`, `joined_tree`, `least_tree_joined`.
use mathlib.Core.Path.{◌≡◌, refl, sym, ap, ◌∙◌}
use mathlib.Core.Bool.{true, false}
use mathlib.Core.List.{List, [], ◌∷◌, ◌++◌}
use Prim.Native.Nat.{ℕ, zero, suc, ◌+◌, ◌≤◌}
use native.Mathlib.Omega.{arith}
use lib.ListN.{length}
use Rattle.laws.specs.Choice.{is_in}
use Rattle.laws.proofs.Members.{in_here, in_later}
use Rattle.paper_nests.specs.Nests.{Nest}
use Rattle.paper_nests.specs.Loops.{is_do, end_of}
use Rattle.paper_nests.specs.Valid.{is_shape}
use Rattle.paper_nests.proofs.Deps.{valid_is}
use Rattle.paper_nests.proofs.Levels.{starts_with_do}
use Rattle.paper_nests.proofs.Loops.{inside_lies, end-after, end_there}
use Rattle.paper_placements.specs.Placements.{are_gaps, loop_count}
use Rattle.paper_order.specs.Trees.{Tree, node, bare, beside}
use Rattle.paper_order.specs.Trees.{is_right_in, loops_right_in, forest_of, tree_from, tree_of}
use Rattle.paper_placements.proofs.Inside.{inside_ends}
use Rattle.paper_order.proofs.DirectlyInside.{right_in_lies}
use Rattle.plan_theorem.specs.KeyOf.{key_of}
use Rattle.plan_theorem.proofs.KeyGaps.{valid_gaps}
use Rattle.call_join.specs.JointNests.{moved_gaps, joined, joined_gaps, second_at, joined_points, Papers, exceeds}
use Rattle.call_join.proofs.Parts.{Part}
use Rattle.call_join.proofs.RightIn.{right_listed, right_moved, right_in_outer}
use Rattle.call_join.proofs.JointShapes.{joint_length}
use Rattle.call_join.proofs.JointValid.{Joint, joint_by}
use Rattle.call_join.proofs.JointPlacements.{first_count, second_count, outer_count}
use Rattle.call_join.proofs.JointKey.{joined_key}

-- trees of loops that are moved along
forest_moved
    : (k : ℕ) (t u : ℕ → Tree) (xs : List ℕ)
    → ((x : ℕ) → is_in x xs ≡ true → t (k + x) ≡ u x)
    → forest_of t (moved_gaps k xs) ≡ forest_of u xs
forest_moved k t u [] same = refl
forest_moved k t u (x ∷ xs) same =
    rw (same x (in_here x xs), forest_moved k t u xs (λ y h. same y (in_later y x xs h)))

-- the tree of a loop of a part, where the counts are the same
module _
    (n q : Nest) (k : ℕ) (part : Part n.points q.points k) (a gs : List ℕ)
    (same : (d : ℕ) → is_do n.points d ≡ true → loop_count q gs (k + d) ≡ loop_count n a d)
  where
    pub part_tree
        : (h i d : ℕ)
        → is_do n.points d ≡ true
        → end_of n.points d ≤ d + h
        → end_of n.points d ≤ d + i
        → tree_from h q gs (k + d) ≡ tree_from i n a d
    part_tree zero i d l x y = absurd (omega (arith, end-after n.points part.shape d l))
    part_tree (suc h) zero d l x y = absurd (omega (arith, end-after n.points part.shape d l))
    part_tree (suc h) (suc i) d l x y =
        rw (same d l, right_moved n.points q.points k part d l)
        (ap (node (loop_count n a d))
        (forest_moved k (tree_from h q gs) (tree_from i n a) (loops_right_in n.points d)
        (λ z m. lower z (sym (right_listed n.points d z) ∙ m) (part_tree h i z))))
      where
        lower
            : (z : ℕ)
            → is_right_in n.points d z ≡ true
            → (is_do n.points z ≡ true → end_of n.points z ≤ z + h → end_of n.points z ≤ z + i →
            tree_from h q gs (k + z) ≡ tree_from i n a z)
            → tree_from h q gs (k + z) ≡ tree_from i n a z
        lower z r rest =
            let s = right_in_lies n.points d z r in
            let u = inside_lies n.points d z s.inside in
            let v = inside_ends n.points part.shape d z l s.loop s.inside in
            rest s.loop (omega (arith, u.0)) (omega (arith, u.0))

module _ (n m : Nest) (papers : Papers n m) (fits : exceeds n m ≡ false) where
  -- the two old trees under a root with count 0
  pub joined_tree
      : (a b : List ℕ)
      → are_gaps n a ≡ true
      → are_gaps m b ≡ true
      → tree_of (joined n m) (joined_gaps n a b) ≡ node 0 (beside (tree_of n a) (beside (tree_of m b) bare))
  joined_tree a b one two =
      rw (
        outer_count n m j a b one two,
        right_in_outer n.points m.points j.first.shape j.second.shape whole,
      )
      (ap (λ (t : Tree). node 0 (beside t (beside (below (second_at n)) bare))) first_tree ∙
      ap (λ (t : Tree). node 0 (beside (tree_of n a) (beside t bare))) second_tree)
    where
      j : Joint n m
      j = joint_by n m papers fits

      whole : is_shape (joined_points n.points m.points) ≡ true
      whole = (valid_is (joined n m) j.valid).shape

      below : ℕ → Tree
      below d = tree_from (length (n.points ++ (m.points ++ (2 ∷ [])))) (joined n m) (joined_gaps n a b) d

      first_tree : below 1 ≡ tree_of n a
      first_tree =
          let first = starts_with_do n.points j.first.shape in
          let there = end_there n.points j.first.shape 0 first in
          part_tree n (joined n m) 1 j.first-at a (joined_gaps n a b) (first_count n m j a b one two)
          (length (n.points ++ (m.points ++ (2 ∷ [])))) (length n.points) 0 first
          (omega (arith, joint_length n.points m.points)) (omega arith)

      second_tree : below (second_at n) ≡ tree_of m b
      second_tree =
          let first = starts_with_do m.points j.second.shape in
          let there = end_there m.points j.second.shape 0 first in
          let e : second_at n + 0 ≡ second_at n = omega arith in
          rw e at
          (part_tree m (joined n m) (second_at n) j.second-at b (joined_gaps n a b) (second_count n m j a b one two)
          (length (n.points ++ (m.points ++ (2 ∷ [])))) (length m.points) 0 first
          (omega (arith, joint_length n.points m.points)) (omega arith))

  -- and so of the keys: the least tree of the joint paper has the two least trees under it
  pub least_tree_joined
      : tree_of (joined n m) (key_of (joined n m))
      ≡ node 0 (beside (tree_of n (key_of n)) (beside (tree_of m (key_of m)) bare))
  least_tree_joined =
      ap (tree_of (joined n m)) (joined_key n m papers fits) ∙
      joined_tree (key_of n) (key_of m) (valid_gaps n papers.first) (valid_gaps m papers.second)
