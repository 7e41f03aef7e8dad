use mathlib.Core.Path.{refl, sym, ◌∙◌}
use native.Mathlib.Omega.{arith}
use Rattle.paper_placements.proofs.CutTest.{cut_some}
use Rattle.call_improve.proofs.TryTurns.{gap_below, turn_start, turn_below, turn_up, turn_cut, turn_sum, turn_kept}
use Rattle.call_improve.proofs.TryTurns.{turn_next, turn_done}
use Rattle.call_improve.proofs.try_at.Goals as goal

pub put-placement-requires : goal.put-placement-requires
put-placement-requires c = gap_below c.args.tables.now.with_ends c.requires

pub loop-i-init : goal.loop-i-init
loop-i-init c =
    turn_start c.args.tables.now.with_ends c.requires c.empty-none.result.words c.put-placement.result.words
    c.empty-none.ensures c.put-placement.ensures

pub loop-i-smaller-then-is_some : goal.loop-i-smaller-then-is_some
loop-i-smaller-then-is_some c =
    let l = c.loop-i in
    omega (arith, turn_up c.args.tables.now.with_ends c.requires l.placement.words l.invariant c.if-i-many.true)

pub loop-i-preserved-then-is_some : goal.loop-i-preserved-then-is_some
loop-i-preserved-then-is_some c =
    let l = c.loop-i in
    turn_cut c.args.tables.now.with_ends c.requires l.placement.words l.invariant c.if-i-many.true c.cut_in.result
    c.cut_in.ensures (cut_some c.cut_in.result ∙ sym c.is_some.ensures ∙ c.if-is_some.true)

pub put-placement-requires-else-is_some : goal.put-placement-requires-else-is_some
put-placement-requires-else-is_some c =
    turn_below c.args.tables.now.with_ends c.requires c.loop-i.placement.words c.loop-i.invariant

pub overflow_add-calls : goal.overflow_add-calls
overflow_add-calls c =
    let l = c.loop-i in
    record {
      fits =
          turn_sum c.args.tables.now.with_ends c.requires l.placement.words l.invariant c.if-i-many.true
          c.cut_in.result c.cut_in.ensures (cut_some c.cut_in.result ∙ sym c.is_some.ensures ∙ c.if-is_some.false);
    }

pub loop-i-preserved-else-is_some : goal.loop-i-preserved-else-is_some
loop-i-preserved-else-is_some c =
    let l = c.loop-i in
    let kept = c.put-placement-else-is_some in
    turn_kept c.args.tables.now.with_ends c.requires l.placement.words l.invariant c.if-i-many.true c.cut_in.result
    c.cut_in.ensures (cut_some c.cut_in.result ∙ sym c.is_some.ensures ∙ c.if-is_some.false) kept.result.words
    kept.ensures

pub returns-then-count-h : goal.returns-then-count-h
returns-then-count-h c =
    let l = c.loop-i in
    turn_done c.args.tables.now.with_ends c.requires l.placement.words l.invariant c.if-i-many.false
    (record { placement = l.placement; calls = l.calls })
    refl
    refl
    c.if-count-h.true

pub loop-i-preserved : goal.loop-i-preserved
loop-i-preserved c =
    let l = c.loop-i in
    turn_next c.args.tables.now.with_ends c.requires l.placement.words l.invariant c.if-i-many.false c.if-count-h.false
