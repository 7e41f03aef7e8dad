use Prim.Native.Nat.{◌+◌, ◌≤◌}
use native.Mathlib.Omega.{arith}
use lib.ListN.{length, length-take, length-drop}
use borrow.Author.Rules.{rules}
use Rattle.paper_texts.proofs.Counting.{Given, count_begin, count_within}
use Rattle.paper_texts.proofs.Counting.{count_room, count_skip, count_on, count_done}
use Rattle.paper_placements.specs.Words.{gaps_in}
use Rattle.paper_texts.proofs.write_counts.Goals as goal
use Rattle.paper_texts.proofs.write_counts.Goals.{After-counts_of-counts, In-loop-d, then-points-d-eq-DO, else-points-d-eq-DO}

pub counts_of-counts-requires : goal.counts_of-counts-requires
counts_of-counts-requires c = record { points_value = c.requires.points_value; words_value = c.requires.words_value }

pub loop-d-init : goal.loop-d-init
loop-d-init c =
    let a = c.args in
    count_begin a.points.now c.counts_of-counts.result a.out.now

given
    : (c : After-counts_of-counts)
    → Given c.args.points.now (gaps_in c.args.key.words) c.counts_of-counts.result c.args.out.now
given c =
    record { few = c.requires.points_value.1; gaps = c.requires.words_value; counts_are = c.counts_of-counts.ensures; room = c.requires.counts_fit }

within : (c : In-loop-d) → c.loop-d.at ≤ length c.loop-d.out
within c =
    let a = c.args in
    let known : Given a.points.now (gaps_in a.key.words) c.counts_of-counts.result a.out.now = record { few = c.requires.points_value.1; gaps = c.requires.words_value; counts_are = c.counts_of-counts.ensures; room = c.requires.counts_fit } in
    let low : c.loop-d.at ≤ length a.out.now = count_within a.points.now c.counts_of-counts.result a.out.now c.loop-d.out c.loop-d.at c.loop-d.d
    c.loop-d.invariant (gaps_in a.key.words) known in
    omega (arith, low, c.loop-d.auto.out)

pub slice_bounds-put_frame-count : goal.slice_bounds-put_frame-count
slice_bounds-put_frame-count c = within (goal.at.slice_bounds-put_frame-count c).In-loop-d

pub slice_bounds-put_frame-start : goal.slice_bounds-put_frame-start
slice_bounds-put_frame-start c =
    let low = within (goal.at.slice_bounds-put_frame-start c).In-loop-d in
    search rules

pub put_frame-at-requires : goal.put_frame-at-requires
put_frame-at-requires c =
    let a = c.args in
    let room : c.loop-d.at + 7 ≤ length a.out.now = count_room a.points.now c.counts_of-counts.result a.out.now c.loop-d.out c.loop-d.at c.loop-d.d
    c.loop-d.invariant (gaps_in a.key.words) (given (goal.at.put_frame-at-requires c).After-counts_of-counts)
    c.loop-d-test.true c.if-points-d-eq-DO.true in
    simp (length-take, length-drop) (omega (arith, c.loop-d.auto.out, room))

pub overflow_add-at : goal.overflow_add-at
overflow_add-at c =
    let a = c.args in
    let room : c.loop-d.at + 7 ≤ length a.out.now = count_room a.points.now c.counts_of-counts.result a.out.now c.loop-d.out c.loop-d.at c.loop-d.d
    c.loop-d.invariant (gaps_in a.key.words) (given (goal.at.overflow_add-at c).After-counts_of-counts)
    c.loop-d-test.true c.if-points-d-eq-DO.true in
    omega (arith, room, c.put_frame-at.ensures.value)

pub loop-d-preserved : goal.loop-d-preserved
loop-d-preserved c =
    let a = c.args in
    let t = c.counts_of-counts.result in
    elim c.if-points-d-eq-DO.branch [
      | then-points-d-eq-DO w ↦ rw (w.out-is, w.at-is)
          (count_on a.points.now t a.out.now c.loop-d.out c.loop-d.at c.loop-d.d c.loop-d.invariant w.put_frame-at.new.out
          w.put_frame-at.result c.loop-d-test.true w.if-points-d-eq-DO.true w.put_frame-at.ensures.value w.put_frame-at.ensures.out_after)
      | else-points-d-eq-DO w ↦ rw (w.out-is, w.at-is)
          (count_skip a.points.now t a.out.now c.loop-d.out c.loop-d.at c.loop-d.d c.loop-d.invariant c.loop-d-test.true
          w.if-points-d-eq-DO.false)
    ]

pub returns : goal.returns
returns c =
    let a = c.args in
    count_done a.points.now c.counts_of-counts.result a.out.now c.loop-d.out c.loop-d.at c.loop-d.d c.loop-d.invariant
    (gaps_in a.key.words) (given (goal.at.returns c).After-counts_of-counts) c.loop-d-test.false
