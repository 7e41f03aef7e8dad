-- `write_joined` meets its contract: all points, then all dependences as the last part.
use mathlib.Core.Path.{refl}
use mathlib.Core.List.{List}
use Prim.Native.Nat.{ℕ, ◌≤◌}
use native.Mathlib.Omega.{arith}
use lib.ListN.{length}
use borrow.Author.Rules.{rules}
use Rattle.paper_nests.specs.declared.Nest as DN
use Rattle.paper_nests.specs.Nests.{Nest}
use Rattle.paper_texts.specs.NestTexts.{nest_text}
use Rattle.call_join.specs.Written.{joint_in, points_text, deps_text, Writes}
use Rattle.call_join.proofs.JointTexts.{nest-text}
use Rattle.call_join.proofs.LastPart.{first_fits, Begun, begun_by}
use Rattle.call_join.proofs.LastPart.{rest_within, rest_fits, last_within, last_length, last_written}
use Rattle.call_join.proofs.write_joined.Goals as goal

pub put_all_points-at-requires : goal.put_all_points-at-requires
put_all_points-at-requires c =
    let joint : Nest = joint_in c.args.both.now.n.now c.args.both.now.m.now in
    first_fits (nest_text joint) (points_text joint) (deps_text joint.deps) c.args.out.now (nest-text joint refl)
    c.requires.room

-- the points are written
begun
    : (n m : DN.Nest) {o out : List ℕ} {at : ℕ}
    → length (nest_text (joint_in n m)) ≤ length o
    → Writes (points_text (joint_in n m)) o out at
    → Begun (nest_text (joint_in n m)) (deps_text (joint_in n m).deps) o out at
begun n m room w = begun_by (points_text (joint_in n m)) (nest-text (joint_in n m) refl) room w.0 w.1

pub slice_bounds-put_all_deps-count : goal.slice_bounds-put_all_deps-count
slice_bounds-put_all_deps-count c =
    let now = begun c.args.both.now.n.now c.args.both.now.m.now c.requires.room c.put_all_points-at.ensures in
    rest_within now

pub slice_bounds-put_all_deps-start : goal.slice_bounds-put_all_deps-start
slice_bounds-put_all_deps-start c =
    let now = begun c.args.both.now.n.now c.args.both.now.m.now c.requires.room c.put_all_points-at.ensures in
    let z = rest_within now in
    search rules

pub slice_bounds-put_all_deps-end : goal.slice_bounds-put_all_deps-end
slice_bounds-put_all_deps-end c =
    let now = begun c.args.both.now.n.now c.args.both.now.m.now c.requires.room c.put_all_points-at.ensures in
    let z = rest_within now in
    search rules

pub put_all_deps-requires : goal.put_all_deps-requires
put_all_deps-requires c =
    let now = begun c.args.both.now.n.now c.args.both.now.m.now c.requires.room c.put_all_points-at.ensures in
    record { fits = c.requires.fits; room = rest_fits now }

pub overflow_add-result : goal.overflow_add-result
overflow_add-result c =
    let now = begun c.args.both.now.n.now c.args.both.now.m.now c.requires.room c.put_all_points-at.ensures in
    omega (arith, last_within now c.put_all_deps.ensures.0 c.put_all_deps.ensures.1)

pub shape_of-out : goal.shape_of-out
shape_of-out c =
    let now = begun c.args.both.now.n.now c.args.both.now.m.now c.requires.room c.put_all_points-at.ensures in
    last_length now c.put_all_deps.ensures.0 c.put_all_deps.ensures.1

pub returns : goal.returns
returns c =
    let now = begun c.args.both.now.n.now c.args.both.now.m.now c.requires.room c.put_all_points-at.ensures in
    last_written now c.put_all_deps.ensures.0 c.put_all_deps.ensures.1
