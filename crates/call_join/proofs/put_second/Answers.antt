-- `put_second` meets its contract: the points, then the ENDDO as the last part.
use mathlib.Core.Path.{refl}
use mathlib.Core.List.{List, [], ◌∷◌}
use Prim.Native.Nat.{ℕ, ◌≤◌}
use native.Mathlib.Omega.{arith}
use lib.ListN.{length}
use borrow.Author.Rules.{rules}
use Rattle.paper_nests.specs.Kinds.{ENDDO}
use Rattle.paper_nests.specs.Nests.{Nest}
use Rattle.paper_nests.specs.Stored.{nest_in}
use Rattle.paper_lines.specs.Lines.{line_text}
use Rattle.call_join.specs.Written.{points_text, second_text, Writes}
use Rattle.call_join.proofs.LastPart.{first_fits, Begun, begun_by}
use Rattle.call_join.proofs.LastPart.{rest_within, rest_fits, last_within, last_length, last_written}
use Rattle.call_join.proofs.put_second.Goals as goal

pub put_points-at-requires : goal.put_points-at-requires
put_points-at-requires c =
    let m = nest_in c.args.m.now in
    let fits =
    first_fits (second_text m) (points_text m) (line_text (ENDDO ∷ [])) c.args.out.now refl c.requires.room in
    record { counted = c.requires.counted; room = fits }

-- the points are written
begun
    : (m : Nest) {o out : List ℕ} {at : ℕ} → length (second_text m) ≤ length o → Writes (points_text m) o out at
    → Begun (second_text m) (line_text (ENDDO ∷ [])) o out at
begun m room w = begun_by (points_text m) refl room w.0 w.1

pub slice_bounds-put_frame-count : goal.slice_bounds-put_frame-count
slice_bounds-put_frame-count c =
    let now = begun (nest_in c.args.m.now) c.requires.room c.put_points-at.ensures in
    rest_within now

pub slice_bounds-put_frame-start : goal.slice_bounds-put_frame-start
slice_bounds-put_frame-start c =
    let now = begun (nest_in c.args.m.now) c.requires.room c.put_points-at.ensures in
    let z = rest_within now in
    search rules

pub slice_bounds-put_frame-end : goal.slice_bounds-put_frame-end
slice_bounds-put_frame-end c =
    let now = begun (nest_in c.args.m.now) c.requires.room c.put_points-at.ensures in
    let z = rest_within now in
    search rules

pub put_frame-requires : goal.put_frame-requires
put_frame-requires c =
    let now = begun (nest_in c.args.m.now) c.requires.room c.put_points-at.ensures in
    rest_fits now

pub overflow_add-result : goal.overflow_add-result
overflow_add-result c =
    let now = begun (nest_in c.args.m.now) c.requires.room c.put_points-at.ensures in
    omega (arith, last_within now c.put_frame.ensures.value c.put_frame.ensures.out_after)

pub shape_of-out : goal.shape_of-out
shape_of-out c =
    let now = begun (nest_in c.args.m.now) c.requires.room c.put_points-at.ensures in
    last_length now c.put_frame.ensures.value c.put_frame.ensures.out_after

pub returns : goal.returns
returns c =
    let now = begun (nest_in c.args.m.now) c.requires.room c.put_points-at.ensures in
    last_written now c.put_frame.ensures.value c.put_frame.ensures.out_after
