-- `put_all_points` meets its contract: the new loop's DO, then what follows it as the last part.
use mathlib.Core.Path.{◌≡◌}
use mathlib.Core.List.{List, [], ◌∷◌}
use Prim.Native.Nat.{ℕ, ◌≤◌}
use native.Mathlib.Omega.{arith}
use lib.ListN.{length}
use borrow.Author.Rules.{rules}
use Rattle.paper_nests.specs.Kinds.{DO}
use Rattle.paper_nests.specs.Stored.{nest_in}
use Rattle.paper_lines.specs.Lines.{line_text}
use Rattle.paper_lines.specs.Writing.{over}
use Rattle.call_join.specs.declared.Both as DB
use Rattle.call_join.specs.Written.{joint_in, points_text, inside_text}
use Rattle.call_join.proofs.JointTexts.{joint_points}
use Rattle.call_join.proofs.LastPart.{first_fits, Begun, begun_by}
use Rattle.call_join.proofs.LastPart.{rest_within, rest_fits, last_within, last_length, last_written}
use Rattle.call_join.proofs.put_all_points.Goals as goal

pub put_frame-at-requires : goal.put_frame-at-requires
put_frame-at-requires c =
    let b = c.args.both.now in
    let n = nest_in b.n.now in
    let m = nest_in b.m.now in
    first_fits (points_text (joint_in b.n.now b.m.now)) (line_text (DO ∷ [])) (inside_text n m) c.args.out.now
    (joint_points n m b.papers) c.requires

-- the DO is written
begun
    : (b : DB.Both) {o out : List ℕ} {at : ℕ}
    → length (points_text (joint_in b.n.now b.m.now)) ≤ length o
    → at ≡ length (line_text (DO ∷ []))
    → out ≡ over (line_text (DO ∷ [])) o
    → Begun (points_text (joint_in b.n.now b.m.now)) (inside_text (nest_in b.n.now) (nest_in b.m.now)) o out at
begun b room = begun_by (line_text (DO ∷ [])) (joint_points (nest_in b.n.now) (nest_in b.m.now) b.papers) room

pub slice_bounds-put_inside-count : goal.slice_bounds-put_inside-count
slice_bounds-put_inside-count c =
    let now = begun c.args.both.now c.requires c.put_frame-at.ensures.value c.put_frame-at.ensures.out_after in
    rest_within now

pub slice_bounds-put_inside-start : goal.slice_bounds-put_inside-start
slice_bounds-put_inside-start c =
    let now = begun c.args.both.now c.requires c.put_frame-at.ensures.value c.put_frame-at.ensures.out_after in
    let z = rest_within now in
    search rules

pub slice_bounds-put_inside-end : goal.slice_bounds-put_inside-end
slice_bounds-put_inside-end c =
    let now = begun c.args.both.now c.requires c.put_frame-at.ensures.value c.put_frame-at.ensures.out_after in
    let z = rest_within now in
    search rules

pub put_inside-requires : goal.put_inside-requires
put_inside-requires c =
    let now = begun c.args.both.now c.requires c.put_frame-at.ensures.value c.put_frame-at.ensures.out_after in
    rest_fits now

pub overflow_add-result : goal.overflow_add-result
overflow_add-result c =
    let now = begun c.args.both.now c.requires c.put_frame-at.ensures.value c.put_frame-at.ensures.out_after in
    omega (arith, last_within now c.put_inside.ensures.0 c.put_inside.ensures.1)

pub shape_of-out : goal.shape_of-out
shape_of-out c =
    let now = begun c.args.both.now c.requires c.put_frame-at.ensures.value c.put_frame-at.ensures.out_after in
    last_length now c.put_inside.ensures.0 c.put_inside.ensures.1

pub returns : goal.returns
returns c =
    let now = begun c.args.both.now c.requires c.put_frame-at.ensures.value c.put_frame-at.ensures.out_after in
    last_written now c.put_inside.ensures.0 c.put_inside.ensures.1
