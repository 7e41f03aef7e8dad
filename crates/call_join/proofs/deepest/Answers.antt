use native.Mathlib.Omega.{arith}
use Rattle.std.proofs.lemmas.Bool.Decides.{nat_tests}
use mathlib.Core.Path.{◌∙◌}
use Rattle.call_join.proofs.Measuring.{deepest_on}
use Rattle.call_join.proofs.deepest.Goals as goal

pub loop-point-preserved : goal.loop-point-preserved
loop-point-preserved c =
    deepest_on c.loop-point.invariant c.loop-point-test.true c.deeper-depth.ensures
    (c.max-most.ensures ∙ grind (arith, nat_tests))
