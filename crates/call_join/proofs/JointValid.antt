-- The joint nest of two valid nests is valid exactly if no limit is exceeded: its points make loops, its dependences
-- are placed well and its flags are DOs, so that only the limits are left.
-- Main definition: `Joint`. Main statements: `joined_valid`, `joint_by`.
use mathlib.Core.Path.{◌≡◌, refl, ◌∙◌}
use mathlib.Core.Bool.{true, false, ◌||◌, not}
use mathlib.Core.List.{List, [], ◌∷◌, ◌++◌}
use Prim.Native.Nat.{ℕ, ◌≤◌}
use native.Mathlib.Omega.{arith}
use lib.Dec.{ltb}
use lib.ListN.{length}
use borrow.Author.Tests.{ltb-false, le-ltb, not-true}
use Rattle.laws.proofs.Tests.{and_intro, and_true, or_false, bool_by}
use Rattle.paper_nests.specs.Kinds.{POINTS, DEPTH, DEPENDENCES}
use Rattle.paper_nests.specs.Nests.{Dep, Nest}
use Rattle.paper_nests.specs.Valid.{is_dep, are_deps, is_shape, is_valid}
use Rattle.paper_nests.proofs.Deps.{Valid, valid_is, is-valid}
use Rattle.call_join.specs.JointNests.{moved_deps, joined, joined_points, second_at, Papers, deepest, exceeds}
use Rattle.call_join.proofs.Depths.{shape_deepest}
use Rattle.call_join.proofs.Parts.{Part}
use Rattle.call_join.proofs.JointShapes.{joint_shape, first_part, second_part}
use Rattle.call_join.proofs.PartDeps.{deps_moved}
use Rattle.call_join.proofs.JointFlags.{joint_flags}

deps_both
    : (ps : List ℕ) (xs ys : List Dep)
    → are_deps ps xs ≡ true
    → are_deps ps ys ≡ true
    → are_deps ps (xs ++ ys) ≡ true
deps_both ps [] ys h k = k
deps_both ps (x ∷ xs) ys h k =
    let z = and_true (is_dep ps x) (are_deps ps xs) h in
    and_intro z.0 (deps_both ps xs ys z.1 k)

module _ (n m : Nest) (papers : Papers n m) where
  one : Valid n
  one = valid_is n papers.first

  two : Valid m
  two = valid_is m papers.second

  -- where no limit is exceeded
  record Within : Type 0 where
    points : length (joined n m).points ≤ POINTS
    many : length (joined n m).deps ≤ DEPENDENCES
    deep : deepest (joined n m).points ≤ DEPTH

  within : exceeds n m ≡ false → Within
  within h =
      let p = length (joined n m).points in
      let d = length (joined n m).deps in
      let t = deepest (joined n m).points in
      let a = or_false (ltb POINTS p) (ltb DEPENDENCES d || ltb DEPTH t) h in
      let b = or_false (ltb DEPENDENCES d) (ltb DEPTH t) a.1 in
      record {
        points = ltb-false POINTS p a.0;
        many = ltb-false DEPENDENCES d b.0;
        deep = ltb-false DEPTH t b.1;
      }

  not_exceeded : Valid (joined n m) → exceeds n m ≡ false
  not_exceeded v =
      rw (
        le-ltb POINTS (length (joined n m).points) v.few_points,
        le-ltb DEPENDENCES (length (joined n m).deps) v.few_deps,
        le-ltb DEPTH (deepest (joined n m).points) (shape_deepest (joined n m).points v.shape),
      )

  valid_within : Within → is_valid (joined n m) ≡ true
  valid_within w = is-valid (joined n m) record {
    shape = whole;
    few_points = w.points;
    few_deps = w.many;
    all-deps =
        deps_both (joined n m).points (moved_deps 1 n.deps) (moved_deps (second_at n) m.deps)
        (deps_moved n.points (joined n m).points 1
        (first_part n.points m.points one.shape two.shape whole) n.deps one.all-deps)
        (deps_moved m.points (joined n m).points (second_at n)
        (second_part n.points m.points one.shape two.shape whole) m.deps two.all-deps);
    few_bars = omega arith;
    all_bars = refl;
    all_flags =
        joint_flags n.points m.points n.flagged m.flagged one.all_flags two.all_flags;
  }
    where
      whole : is_shape (joined_points n.points m.points) ≡ true
      whole = joint_shape n.points m.points one.shape two.shape w.deep

  -- number 18: the joint nest is valid unless a limit is exceeded
  pub joined_valid : is_valid (joined n m) ≡ not (exceeds n m)
  joined_valid =
      bool_by (is_valid (joined n m)) (not (exceeds n m))
      (λ h. rw (not_exceeded (valid_is (joined n m) h)))
      (λ h. valid_within (within (not-true (exceeds n m) h)))

-- two papers within the limits, with their joint nest
pub record Joint (n m : Nest) : Type 0 where
  pub first : Valid n
  pub second : Valid m
  pub first_unbarred : n.barred ≡ []
  pub second_unbarred : m.barred ≡ []
  pub valid : is_valid (joined n m) ≡ true
  pub first-at : Part n.points (joined n m).points 1
  pub second-at : Part m.points (joined n m).points (second_at n)

pub joint_by : (n m : Nest) → Papers n m → exceeds n m ≡ false → Joint n m
joint_by n m papers fits =
    record {
      first = a;
      second = b;
      first_unbarred = papers.first_unbarred;
      second_unbarred = papers.second_unbarred;
      valid = valid;
      first-at = first_part n.points m.points a.shape b.shape (valid_is (joined n m) valid).shape;
      second-at = second_part n.points m.points a.shape b.shape (valid_is (joined n m) valid).shape;
    }
  where
    a : Valid n
    a = valid_is n papers.first

    b : Valid m
    b = valid_is m papers.second

    valid : is_valid (joined n m) ≡ true
    valid = joined_valid n m papers ∙ rw fits
