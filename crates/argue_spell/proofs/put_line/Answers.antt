-- A line is put where there is room (`line_put`), and left out where there is not (`line_left`).
use native.Mathlib.Omega.{arith}
use lib.ListN.{length-take, length-drop}
use Rattle.paper_lines.proofs.Writing.{text-length}
use Rattle.argue_spell.proofs.Adding.{line_left, line_put}
use borrow.Author.Rules.{rules}
use Rattle.argue_spell.proofs.put_line.Goals as goal

pub returns-then-out-next : goal.returns-then-out-next
returns-then-out-next c = line_left c.args.frame.now c.args.at c.args.out.now c.if-out-next.true

pub put_frame-requires : goal.put_frame-requires
put_frame-requires c =
    let a = c.args in
    simp (length-take, length-drop) (omega (arith, text-length a.frame.now, c.if-out-next.false))

pub overflow_add-result : goal.overflow_add-result
overflow_add-result c =
    let a = c.args in
    omega (arith, c.put_frame.ensures.value, text-length a.frame.now, c.requires.at_bound, c.requires.frame_len_bound)

pub returns : goal.returns
returns c =
    let a = c.args in
    line_put a.frame.now a.at c.put_frame.result a.out.now c.put_frame.new.out c.if-out-next.false c.put_frame.ensures.value
    c.put_frame.ensures.out_after (search rules)
