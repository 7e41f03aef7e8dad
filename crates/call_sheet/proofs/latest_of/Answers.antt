use mathlib.Core.Path.{refl, sym, ◌∙◌}
use Rattle.laws.specs.Bits.{bit}
use Rattle.call_sheet.specs.Sheets.{latest}
use Rattle.call_sheet.specs.Says.{time_at}
use Rattle.call_sheet.proofs.Passing.{latest_with, latest_without}
use Rattle.call_sheet.proofs.latest_of.Goals as goal
use Rattle.call_sheet.proofs.latest_of.Goals.{then-has, else-has}

pub loop-q-init : goal.loop-q-init
unfolding latest
loop-q-init c = refl

pub loop-q-preserved : goal.loop-q-preserved
loop-q-preserved c =
    let x = bit c.args.set in
    let f = time_at c.args.times.now in
    let l = c.loop-q in
    elim c.if-has.branch [
      | then-has w ↦
          latest_with x f l.q l.best c.if-has.best (sym c.has.ensures ∙ w.if-has.true) l.invariant
          (w.best-is ∙ w.max-best.ensures)
      | else-has w ↦
          latest_without x f l.q l.best c.if-has.best (sym c.has.ensures ∙ w.if-has.false) l.invariant w.best-is
    ]
