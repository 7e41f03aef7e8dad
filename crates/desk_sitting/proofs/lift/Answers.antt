-- `lift` meets its contract: the placement has a gap less (`lift_says`), and the step fits it (`lift_steps`).
use native.Mathlib.Omega.{arith}
use borrow.Author.Rules.{rules}
use Rattle.desk_sitting.proofs.Outcome.{lift_says, lift_steps}
use Rattle.desk_sitting.proofs.lift.Goals as goal

pub recounted-requires-clause-steps : goal.recounted-requires-clause-steps
recounted-requires-clause-steps c =
    let q = c.requires in
    lift_steps q.ready q.g_value c.lifted.result c.lifted.ensures
    (λ x h k p m r. omega (arith, h))
    (λ x y e. search rules)

pub returns : goal.returns
returns c =
    let q = c.requires in
    lift_says q.ready q.g_value c.lifted.result c.lifted.ensures c.recounted.result c.recounted.ensures
