use mathlib.Core.Path.{sym, ◌∙◌}
use native.Mathlib.Omega.{arith}
use Rattle.std.proofs.Math.Nat.{add-sub_cancel}
use Rattle.argue_give.proofs.Rowing.{row_begin, row_skip, row_on, row_done}
use Rattle.argue_give.proofs.give_row.Goals as goal

pub loop-b-init : goal.loop-b-init
loop-b-init c = rw add-sub_cancel (row_begin)

pub loop-b-preserved-then-starts_run : goal.loop-b-preserved-then-starts_run
loop-b-preserved-then-starts_run c =
    let w = c.give_claim-s in
    let n = w.ensures.need_unchanged in
    row_on c.loop-b.invariant (omega arith) (sym c.if-starts_run.true ∙ c.starts_run.ensures)
    c.saturating_sub.ensures w.ensures.gives n.0.0 n.0.1 w.auto.claims w.auto.out n.1

pub loop-b-preserved : goal.loop-b-preserved
loop-b-preserved c =
    row_skip c.loop-b.invariant (omega arith) (sym c.if-starts_run.false ∙ c.starts_run.ensures)

pub returns-clause-gives : goal.returns-clause-gives
returns-clause-gives c = row_done c.loop-b.invariant (omega arith)
