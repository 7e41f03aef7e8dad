-- The digits are passed, then the byte behind them is looked at, then the frame's first bytes are read: one law for each
-- answer.
use mathlib.Core.Path.{sym}
use Prim.Native.Nat.{◌+◌, ◌≤◌}
use native.Mathlib.Omega.{arith}
use lib.ListN.{length, drop, length-drop}
use Rattle.paper_lines.proofs.Reading.{digits_fit, end_in_part, past_end, front_hex, unended, other_behind}
use Rattle.paper_lines.proofs.Reading.{not_digits, is_frame}
use Rattle.paper_lines.proofs.read_line.Goals as goal
use Rattle.paper_lines.proofs.read_line.Goals.{After-digits_in, then-end-text-via-then-end-text, then-end-text-via-else-end-text+then-text-end-ne-FEED, then-end-text-via-else-end-text+else-text-end-ne-FEED+then-not-is_whole}

-- the digits end within the text
ends : (c : After-digits_in) → c.args.at + c.digits_in.result ≤ length c.args.text.now
ends c =
    let a = c.args in
    omega (arith, end_in_part a.text.now a.at c.digits_in.result c.digits_in.ensures, digits_fit (drop a.at a.text.now), length-drop a.at a.text.now)

pub returns-then-at-text : goal.returns-then-at-text
returns-then-at-text c = past_end c.args.text.now c.args.at c.if-at-text.true

pub overflow_add-end : goal.overflow_add-end
overflow_add-end c = omega (arith, ends (goal.at.overflow_add-end c).After-digits_in, c.well_formed)

pub slice_bounds-line-end : goal.slice_bounds-line-end
slice_bounds-line-end c = omega (arith, ends (goal.at.slice_bounds-line-end c).After-digits_in)

pub is_whole-requires : goal.is_whole-requires
is_whole-requires c = front_hex _ _ _ c.if-at-text.false (end_in_part _ _ _ c.digits_in.ensures)

pub returns-then-end-text : goal.returns-then-end-text
returns-then-end-text c =
    let is = end_in_part _ _ _ c.digits_in.ensures in
    elim c.then-end-text.branch [
      | then-end-text-via-then-end-text w ↦ unended _ _ _ c.if-at-text.false is w.if-end-text.true
      | then-end-text-via-else-end-text+then-text-end-ne-FEED w ↦
          other_behind _ _ _ c.if-at-text.false is w.if-end-text.false w.if-text-end-ne-FEED.true
      | then-end-text-via-else-end-text+else-text-end-ne-FEED+then-not-is_whole w ↦
          not_digits _ _ _ c.if-at-text.false is w.if-end-text.false w.if-text-end-ne-FEED.false (sym w.if-not-is_whole.ensures)
    ]

pub returns : goal.returns
returns c =
    is_frame _ _ _ c.if-at-text.false (end_in_part _ _ _ c.digits_in.ensures) c.if-end-text.false
    c.if-text-end-ne-FEED.false
    _ _ _ _
    (sym c.if-not-is_whole.ensures)
    c.byte_at.ensures c.byte_at-2.ensures c.byte_at-3.ensures c.byte_at-4.ensures
