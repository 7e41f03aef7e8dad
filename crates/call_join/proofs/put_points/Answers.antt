use mathlib.Core.Path.{sym, ◌∙◌}
use native.Mathlib.Omega.{arith}
use lib.ListN.{length-take, length-drop}
use Rattle.paper_nests.specs.Stored.{nest_in}
use Rattle.call_join.proofs.PiecesWritten.{piece_length, piece_within, piece_room, piece_on, piece_done}
use Rattle.call_join.proofs.PiecesWritten.{flagged_next, plain_next, points_out}
use Rattle.call_join.proofs.put_points.Goals as goal
use Rattle.call_join.proofs.put_points.Goals.{then-is_next, else-is_next}

pub put_frame-at-requires : goal.put_frame-at-requires
put_frame-at-requires c =
    let n = nest_in c.args.nest.now in
    let p = c.loop-i.invariant in
    let fits = c.requires.room in
    let next = flagged_next n.points n.flagged c.loop-i.f c.loop-i.i
    (rw c.points-point-items.ensures at c.loop-i-test.true)
    (rw c.flagged_loops-flagged.ensures at (sym c.is_next.ensures ∙ c.if-is_next.true)) in
    simp (length-take, length-drop) (omega (arith, piece_room p fits next, piece_length p fits, piece_within p fits))

pub put_frame-at-requires-else-is_next : goal.put_frame-at-requires-else-is_next
put_frame-at-requires-else-is_next c =
    let n = nest_in c.args.nest.now in
    let p = c.loop-i.invariant in
    let fits = c.requires.room in
    let next = plain_next n.points n.flagged c.loop-i.f c.loop-i.i
    (rw c.points-point-items.ensures at c.loop-i-test.true)
    (rw c.flagged_loops-flagged.ensures at (sym c.is_next.ensures ∙ c.if-is_next.false)) in
    simp (length-take, length-drop) (omega (arith, piece_room p fits next, piece_length p fits, piece_within p fits))

pub loop-i-preserved : goal.loop-i-preserved
loop-i-preserved c =
    let n = nest_in c.args.nest.now in
    let p = c.loop-i.invariant in
    let fits = c.requires.room in
    elim c.if-is_next.branch [
      | then-is_next w ↦
          rw (w.out-is, w.at-is, w.f-is)
          (piece_on p fits
          (flagged_next n.points n.flagged c.loop-i.f c.loop-i.i
          (rw c.points-point-items.ensures at c.loop-i-test.true)
          (rw c.flagged_loops-flagged.ensures at (sym c.is_next.ensures ∙ w.if-is_next.true)))
          w.put_frame-at.ensures.value w.put_frame-at.ensures.out_after)
      | else-is_next w ↦
          rw (w.out-is, w.at-is, w.f-is)
          (piece_on p fits
          (plain_next n.points n.flagged c.loop-i.f c.loop-i.i
          (rw c.points-point-items.ensures at c.loop-i-test.true)
          (rw c.flagged_loops-flagged.ensures at (sym c.is_next.ensures ∙ w.if-is_next.false)))
          w.put_frame-at-else-is_next.ensures.value
          (rw c.points-point-items.ensures at w.put_frame-at-else-is_next.ensures.out_after))
    ]

pub returns : goal.returns
returns c =
    let n = nest_in c.args.nest.now in
    piece_done c.loop-i.invariant c.requires.room
    (points_out n.points _ c.loop-i.i (rw c.points-point-items.ensures at c.loop-i-test.false))
