use Prim.Native.Nat.{◌*◌}
use native.Mathlib.Omega.{arith}
use lib.ListN.{length, get_or}
use Rattle.laws.specs.Bits.{bit}
use Rattle.call_sheet.specs.Sheets.{PHASES}
use Rattle.call_sheet.specs.Says.{LONGEST, time_at}
use Rattle.call_sheet.proofs.Latest.{latest_bound}
use Rattle.call_sheet.proofs.pass.Goals as goal

pub overflow_add-times : goal.overflow_add-times
overflow_add-times c =
    let i = c.args in
    omega (
      arith,
      c.latest_of.ensures,
      c.type_inv.row c.loop-p.p,
      latest_bound (bit (get_or i.sets.now c.loop-p.p 0)) (time_at i.earlier.now) (length i.earlier.now)
          (PHASES * LONGEST) c.requires.low,
    )
