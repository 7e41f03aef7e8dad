use mathlib.Core.Path.{refl}
use native.Mathlib.Omega.{arith}
use Rattle.std.proofs.lemmas.Bool.Decides.{nat_tests}
use Rattle.call_sheet.specs.Sheets.{anyone, latest}
use Rattle.call_sheet.specs.Says.{time_at}
use Rattle.call_sheet.proofs.Passing.{latest_with}
use Rattle.call_sheet.proofs.longest.Goals as goal

pub loop-duration-init : goal.loop-duration-init
unfolding latest
loop-duration-init c = (refl, omega arith)

pub loop-duration-preserved : goal.loop-duration-preserved
loop-duration-preserved c =
    let p = c.loop-duration.duration-index in (
      latest_with anyone (time_at c.args.row.now) p c.loop-duration.best c.max-best.result refl
          c.loop-duration.invariant.0 c.max-best.ensures,
      grind (arith, nat_tests, c.max-best.ensures, c.type_inv.row p),
    )
