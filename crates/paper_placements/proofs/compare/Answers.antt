use native.Mathlib.Omega.{arith}
use Rattle.paper_placements.proofs.Masked.{masked_count}
use Rattle.paper_placements.proofs.Comparing.{not_first, ends_loop}
use Rattle.paper_placements.proofs.Comparing.{compare_start, compare_other, compare_same, compare_differ, compare_done}
use Rattle.paper_placements.proofs.compare.Goals as goal
use Rattle.paper_placements.proofs.compare.Goals.{then-point-eq-ENDDO+else-ours-theirs, else-point-eq-ENDDO}

pub loop-e-init : goal.loop-e-init
loop-e-init c = compare_start

pub loop_of-d-requires : goal.loop_of-d-requires
loop_of-d-requires c =
    let s = c.requires.points_value.0 in
    record {
      points_value = s;
      g_nonzero = (not_first _ s _ c.loop-e-test.true c.if-point-eq-ENDDO.true, c.loop-e-test.true);
    }

pub loop_mask-mask-requires : goal.loop_mask-mask-requires
loop_mask-mask-requires c =
    let s = c.requires.points_value in
    record {
      points_value = s;
      d_value = ends_loop _ s.0 _ c.loop-e-test.true c.if-point-eq-ENDDO.true _ c.loop_of-d.ensures;
    }

pub returns-then-ours-theirs : goal.returns-then-ours-theirs
returns-then-ours-theirs c =
    let a = c.args in
    let r = c.requires in
    let m = c.loop_mask-mask in
    compare_differ c.loop-e.invariant c.loop-e-test.true c.if-point-eq-ENDDO.true c.loop_of-d.ensures
    (masked_count _ a.key.words m.result.words _ _ r.words_value m.ensures c.loop_count-ours.ensures)
    (masked_count _ a.other.words m.result.words _ _ r.words_value_2 m.ensures c.loop_count-theirs.ensures)
    c.if-ours-theirs.true

pub loop-e-preserved : goal.loop-e-preserved
loop-e-preserved c =
    let a = c.args in
    let r = c.requires in
    elim c.if-point-eq-ENDDO.branch [
      | then-point-eq-ENDDO+else-ours-theirs w ↦
          let m = w.loop_mask-mask in
          compare_same c.loop-e.invariant c.loop-e-test.true w.if-point-eq-ENDDO.true w.loop_of-d.ensures
          (masked_count _ a.key.words m.result.words _ _ r.words_value m.ensures w.loop_count-ours.ensures)
          (masked_count _ a.other.words m.result.words _ _ r.words_value_2 m.ensures w.loop_count-theirs.ensures)
          w.if-ours-theirs.false
      | else-point-eq-ENDDO w ↦ compare_other c.loop-e.invariant c.loop-e-test.true w.if-point-eq-ENDDO.false
    ]

pub returns : goal.returns
returns c = compare_done c.loop-e.invariant (omega arith)
