-- `put_inside` meets its contract: the first nest's points, then what follows them as the last part.
use mathlib.Core.Path.{refl}
use mathlib.Core.List.{List}
use Prim.Native.Nat.{ℕ, ◌≤◌}
use native.Mathlib.Omega.{arith}
use lib.ListN.{length}
use borrow.Author.Rules.{rules}
use Rattle.paper_nests.specs.Stored.{nest_in}
use Rattle.call_join.specs.declared.Both as DB
use Rattle.call_join.specs.Written.{points_text, second_text, inside_text, Writes}
use Rattle.call_join.proofs.LastPart.{first_fits, Begun, begun_by}
use Rattle.call_join.proofs.LastPart.{rest_within, rest_fits, last_within, last_length, last_written}
use Rattle.call_join.proofs.put_inside.Goals as goal

pub put_points-at-requires : goal.put_points-at-requires
put_points-at-requires c =
    let n = nest_in c.args.both.now.n.now in
    let m = nest_in c.args.both.now.m.now in
    let fits = first_fits (inside_text n m) (points_text n) (second_text m) c.args.out.now refl c.requires in
    record { counted = c.args.both.now.first_counted; room = fits }

-- the points of the first nest are written
begun
    : (b : DB.Both) {o out : List ℕ} {at : ℕ}
    → length (inside_text (nest_in b.n.now) (nest_in b.m.now)) ≤ length o
    → Writes (points_text (nest_in b.n.now)) o out at
    → Begun (inside_text (nest_in b.n.now) (nest_in b.m.now)) (second_text (nest_in b.m.now)) o out at
begun b room w = begun_by (points_text (nest_in b.n.now)) refl room w.0 w.1

pub slice_bounds-put_second-count : goal.slice_bounds-put_second-count
slice_bounds-put_second-count c =
    let now = begun c.args.both.now c.requires c.put_points-at.ensures in
    rest_within now

pub slice_bounds-put_second-start : goal.slice_bounds-put_second-start
slice_bounds-put_second-start c =
    let now = begun c.args.both.now c.requires c.put_points-at.ensures in
    let z = rest_within now in
    search rules

pub slice_bounds-put_second-end : goal.slice_bounds-put_second-end
slice_bounds-put_second-end c =
    let now = begun c.args.both.now c.requires c.put_points-at.ensures in
    let z = rest_within now in
    search rules

pub put_second-requires : goal.put_second-requires
put_second-requires c =
    let now = begun c.args.both.now c.requires c.put_points-at.ensures in
    record { counted = c.args.both.now.second_counted; room = rest_fits now }

pub overflow_add-result : goal.overflow_add-result
overflow_add-result c =
    let now = begun c.args.both.now c.requires c.put_points-at.ensures in
    omega (arith, last_within now c.put_second.ensures.0 c.put_second.ensures.1)

pub shape_of-out : goal.shape_of-out
shape_of-out c =
    let now = begun c.args.both.now c.requires c.put_points-at.ensures in
    last_length now c.put_second.ensures.0 c.put_second.ensures.1

pub returns : goal.returns
returns c =
    let now = begun c.args.both.now c.requires c.put_points-at.ensures in
    last_written now c.put_second.ensures.0 c.put_second.ensures.1
