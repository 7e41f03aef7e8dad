use native.Mathlib.Omega.{arith}
use Rattle.plan_tables.proofs.Collecting.{collect_start, fits_here, collect_on}
use Rattle.plan_tables.proofs.collect.Goals as goal

pub loop-i-init : goal.loop-i-init
loop-i-init c =
    let r = c.requires in
    collect_start r.counted (record { points = r.points; heights_are = r.charted.heights_are }) r.lines_room r.blank

pub enter-requires-clause-fits : goal.enter-requires-clause-fits
enter-requires-clause-fits c = fits_here c.requires.counted c.loop-i.invariant (omega arith) c.requires.all_fit

pub loop-i-preserved : goal.loop-i-preserved
loop-i-preserved c =
    collect_on c.requires.counted c.loop-i.invariant (omega arith) c.enter.auto.reach c.enter.auto.back c.enter.auto.has
    c.enter.ensures
