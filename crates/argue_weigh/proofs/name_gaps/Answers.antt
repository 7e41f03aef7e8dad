use mathlib.Core.Path.{ap, ◌∙◌}
use mathlib.Core.Bool.{Bool, true, false}
use Prim.Native.Nat.{◌-◌, ◌<◌}
use native.Mathlib.Omega.{arith}
use lib.ListN.{length}
use Rattle.laws.specs.Choice.{when}
use Rattle.argue_weigh.proofs.Steps.{number_when, fine_by, name_on, name_stop}
use Rattle.argue_weigh.proofs.name_gaps.Goals as goal

pub loop-g-preserved : goal.loop-g-preserved
loop-g-preserved c =
    let a = c.args in
    let pos : 0 < c.loop-g.g - 1 = omega (arith, c.loop-g-test.true) in
    let fits : c.loop-g.g - 1 < length c.loop-g.times =
    omega (
      arith,
      c.loop-g.auto.g,
      c.loop-g.auto.times,
      c.requires.naming_room.small,
      c.requires.naming_room.times_long,
    ) in
    name_on c.loop-g.invariant pos c.from.result
    (fine_by a.set.words a.d a.e (c.loop-g.g - 1) a.owners.now c.left_at-left.result a.gone.words a.struck.now
    c.lies_at.result true c.left_at-left.ensures c.lies_at.ensures c.if-not-lies_at.false)
    (c.from.ensures ∙ number_when c.left_at-left.result ∙ ap (λ (b : Bool). when b 1) c.left_at-left.ensures)
    fits

pub returns-then-not-lies_at-clause-value : goal.returns-then-not-lies_at-clause-value
returns-then-not-lies_at-clause-value c =
    let a = c.args in
    let pos : 0 < c.loop-g.g - 1 = omega (arith, c.loop-g-test.true) in
    name_stop c.loop-g.invariant pos
    (fine_by a.set.words a.d a.e (c.loop-g.g - 1) a.owners.now c.left_at-left.result a.gone.words a.struck.now
    c.lies_at.result false c.left_at-left.ensures c.lies_at.ensures c.if-not-lies_at.true)
