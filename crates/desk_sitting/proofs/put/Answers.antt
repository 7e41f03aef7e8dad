-- `put` meets its contract: the placement has a gap more (`put_says`), and the step fits it (`put_steps`).
use native.Mathlib.Omega.{arith}
use borrow.Author.Rules.{rules}
use Rattle.desk_sitting.proofs.Outcome.{put_says, put_steps}
use Rattle.desk_sitting.proofs.put.Goals as goal

pub recounted-requires-clause-steps : goal.recounted-requires-clause-steps
recounted-requires-clause-steps c =
    let q = c.requires in
    put_steps q.ready q.g_value c.put.result c.put.ensures
    (λ x h k p m r. omega (arith, h))
    (λ x y e. search rules)

pub returns : goal.returns
returns c =
    let q = c.requires in
    put_says q.ready q.g_value c.put.result c.put.ensures c.recounted.result c.recounted.ensures
