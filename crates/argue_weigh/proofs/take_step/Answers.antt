-- `take_step` meets its contract: one law for each way through it.
use mathlib.Core.Path.{sym}
use Rattle.argue_weigh.proofs.Taking.{says_unfit, says_unled, says_unnamed, says_taken}
use Rattle.argue_weigh.proofs.take_step.Goals.{then-not-set_fits-via-then-not-set_fits}
use Rattle.argue_weigh.proofs.take_step.Goals.{then-not-set_fits-via-else-not-set_fits+then-not-is_led}
use Rattle.argue_weigh.proofs.take_step.Goals as goal

pub returns-then-not-set_fits : goal.returns-then-not-set_fits
returns-then-not-set_fits c =
    let a = c.args in
    elim c.then-not-set_fits.branch [
      | then-not-set_fits-via-then-not-set_fits w ↦
          says_unfit a.last a.claim a.step a.c a.gone a.claims.now a.ends.now a.owners.now
          a.struck.now a.times.now a.times.now (sym w.if-not-set_fits.ensures)
      | then-not-set_fits-via-else-not-set_fits+then-not-is_led w ↦
          says_unled a.last a.claim a.step a.c a.gone a.claims.now a.ends.now a.owners.now
          a.struck.now a.times.now a.times.now (sym w.if-not-is_led.ensures)
    ]

pub returns-then-not-name_gaps : goal.returns-then-not-name_gaps
returns-then-not-name_gaps c =
    let a = c.args in
    says_unnamed a.last a.claim a.step a.c a.gone a.claims.now a.ends.now a.owners.now
    a.struck.now a.times.now a.times.now (sym c.if-not-set_fits.ensures) (sym c.if-not-is_led.ensures)
    c.set_of-set.result.words c.with_led-led.result.words c.set_of-set.ensures c.with_led-led.ensures
    (sym c.if-not-name_gaps.ensures.value)

pub returns : goal.returns
returns c =
    let a = c.args in
    says_taken a.last a.claim a.step a.c a.gone a.claims.now a.ends.now a.owners.now
    a.struck.now a.times.now _ (sym c.if-not-set_fits.ensures) (sym c.if-not-is_led.ensures) c.set_of-set.result.words
    c.with_led-led.result.words c.set_of-set.ensures c.with_led-led.ensures _ (sym c.if-not-name_gaps.ensures.value)
    (c.name_gaps.ensures.named c.if-not-name_gaps.false) c.counted.ensures c.gone_after.ensures
