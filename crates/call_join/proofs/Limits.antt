-- Number 18 worked out from the two nests: their points and dependences together, and the deeper of the two.
-- Main statement: `exceeds_by`.
use mathlib.Core.Path.{◌≡◌, refl, ap}
use mathlib.Core.Bool.{◌||◌}
use mathlib.Core.List.{List, [], ◌∷◌}
use Prim.Native.Nat.{ℕ, suc, ◌+◌, max}
use native.Mathlib.Omega.{arith}
use Rattle.std.proofs.lemmas.Bool.Decides.{nat_tests}
use lib.Dec.{ltb, leb}
use lib.ListN.{length, length-append}
use Rattle.paper_nests.specs.Kinds.{POINTS, DEPTH, DEPENDENCES}
use Rattle.paper_nests.specs.Nests.{Dep, Nest}
use Rattle.paper_nests.proofs.Deps.{valid_is}
use Rattle.call_join.specs.JointNests.{moved_deps, joined, second_at, Papers, deepest, exceeds}
use Rattle.call_join.proofs.JointShapes.{joint_length, joint_deepest}

moved_count : (k : ℕ) (es : List Dep) → length (moved_deps k es) ≡ length es
moved_count k [] = refl
moved_count k (e ∷ es) = ap suc (moved_count k es)

module _ (n m : Nest) (papers : Papers n m) where
  points_are : length (joined n m).points ≡ length n.points + length m.points + 2
  points_are = joint_length n.points m.points

  many_are : length (joined n m).deps ≡ length n.deps + length m.deps
  many_are =
      let xs = moved_deps 1 n.deps in
      let ys = moved_deps (second_at n) m.deps in
      omega (arith, length-append xs ys, moved_count 1 n.deps, moved_count (second_at n) m.deps)

  deep_is : deepest (joined n m).points ≡ suc (max (deepest n.points) (deepest m.points))
  deep_is =
      joint_deepest n.points m.points (valid_is n papers.first).shape (valid_is m papers.second).shape

  -- so the two nests decide
  pub exceeds_by
      : exceeds n m ≡
      (ltb POINTS (length n.points + length m.points + 2) ||
      (ltb DEPENDENCES (length n.deps + length m.deps) ||
      (leb DEPTH (deepest n.points) || leb DEPTH (deepest m.points))))
  exceeds_by = rw (points_are, many_are, deep_is) (grind (arith, nat_tests))
