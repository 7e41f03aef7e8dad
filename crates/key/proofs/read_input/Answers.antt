use mathlib.Core.Path.{sym, ◌∙◌}
use native.Mathlib.Omega.{arith}
use Rattle.key.proofs.Reading.{reading_start, reading_on, reading_done, reading_full}
use Rattle.key.proofs.read_input.Goals as goal

pub loop-reads-init : goal.loop-reads-init
loop-reads-init c = reading_start c.args.input.now

pub loop-reads-preserved : goal.loop-reads-preserved
loop-reads-preserved c =
    reading_on c.loop-reads.invariant c.read_more-step.ensures (sym c.after.ensures ∙ c.in-Continue.is)

pub returns-in-Break : goal.returns-in-Break
returns-in-Break c =
    reading_done c.loop-reads.invariant c.read_more-step.ensures (sym c.after.ensures ∙ c.in-Break.is)

pub returns : goal.returns
returns c = reading_full c.loop-reads.invariant (omega (arith, c.loop-reads-test.false))
