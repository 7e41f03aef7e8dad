use native.Mathlib.Omega.{arith}
use Rattle.laws.proofs.Copies.{copies}
use Rattle.paper_lines.proofs.Values.{fill_none, fill_all}
use Rattle.paper_lines.proofs.digit_values.Goals as goal

pub loop-v-init : goal.loop-v-init
unfolding copies
loop-v-init c = fill_none

pub returns : goal.returns
returns c = fill_all _ _ c.loop-v.invariant (omega arith)
