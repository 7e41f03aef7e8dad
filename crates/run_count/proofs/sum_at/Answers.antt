use mathlib.Core.Path.{sym, ◌∙◌}
use native.Mathlib.Omega.{arith}
use Rattle.run_count.proofs.Summing.{sum_start, sum_held, sum_free, sum_fits, sum_done}
use Rattle.run_count.proofs.sum_at.Goals as goal
use Rattle.run_count.proofs.sum_at.Goals.{then-holds, else-holds}

pub loop-g-init : goal.loop-g-init
loop-g-init c = sum_start c.args.times.now c.args.p.words

pub overflow_add-calls : goal.overflow_add-calls
overflow_add-calls c =
    let held = sym c.holds.ensures ∙ c.if-holds.true in
    omega (arith, sum_fits c.loop-g.invariant (omega arith) held, c.requires)

pub loop-g-preserved : goal.loop-g-preserved
loop-g-preserved c =
    elim c.if-holds.branch [
      | then-holds w ↦ rw w.calls-is (sum_held c.loop-g.invariant (omega arith) (sym c.holds.ensures ∙ w.if-holds.true))
      | else-holds w ↦ rw w.calls-is (sum_free c.loop-g.invariant (omega arith) (sym c.holds.ensures ∙ w.if-holds.false))
    ]

pub returns : goal.returns
returns c = sum_done c.loop-g.invariant (omega arith)
