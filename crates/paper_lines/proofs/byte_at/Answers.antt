-- A byte of the frame is two digits of the line.
use Prim.Native.Nat.{◌+◌, ◌*◌}
use native.Mathlib.Omega.{arith}
use Rattle.paper_lines.proofs.Digits.{hex_at, frame_at, frame_past}
use Rattle.paper_lines.proofs.byte_at.Goals as goal

pub returns-then-i-line : goal.returns-then-i-line
returns-then-i-line c = frame_past c.args.line.now c.args.i c.if-i-line.true

pub value-requires-clause-b_value : goal.value-requires-clause-b_value
value-requires-clause-b_value c = hex_at c.args.line.now (2 * c.args.i) c.requires.line_value (omega arith)

pub value-requires-2-clause-b_value : goal.value-requires-2-clause-b_value
value-requires-2-clause-b_value c = hex_at c.args.line.now (2 * c.args.i + 1) c.requires.line_value (omega arith)

pub returns : goal.returns
returns c =
    let a = c.args in
    let is = frame_at a.line.now a.i c.if-i-line.false in
    omega (arith, is, c.value.ensures.0, c.value-2.ensures.0)
