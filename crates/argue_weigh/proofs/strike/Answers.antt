use mathlib.Core.Path.{sym, ◌∙◌}
use Prim.Native.Nat.{◌-◌, ◌<◌}
use native.Mathlib.Omega.{arith}
use lib.ListN.{length}
use Rattle.argue_weigh.proofs.Strikes.{larger_max, strike_on, strike_off}
use Rattle.argue_weigh.proofs.strike.Goals as goal

pub loop-g-preserved-then-excludes : goal.loop-g-preserved-then-excludes
loop-g-preserved-then-excludes c =
    let pos : c.args.claim.d < c.loop-g.g - 1 = omega (arith, c.loop-g-test.true) in
    let fits : c.loop-g.g - 1 < length c.loop-g.struck = omega (arith, c.loop-g.auto, c.requires) in
    strike_on c.loop-g.invariant c.max.result pos (sym c.excludes.ensures ∙ c.if-excludes.true)
    (c.max.ensures ∙ larger_max _ _) fits

pub loop-g-preserved : goal.loop-g-preserved
loop-g-preserved c =
    let pos : c.args.claim.d < c.loop-g.g - 1 = omega (arith, c.loop-g-test.true) in
    strike_off c.loop-g.invariant pos (sym c.excludes.ensures ∙ c.if-excludes.false)
