-- `plan_paper` meets its contract: one law for each way through it (proofs/Papers).
use Rattle.plan_paper.proofs.Papers.{one_loop_paper, paper_plain, ring_valid, paper_barred}
use Rattle.plan_paper.proofs.plan_paper.Goals as goal

pub returns-then-nest-eq0 : goal.returns-then-nest-eq0
returns-then-nest-eq0 c =
    paper_plain c.args.nest c.requires.counted c.requires.nest_value c.plan.result c.if-nest-eq0.true c.plan.ensures

pub reduce-requires-clause-nest_value_2 : goal.reduce-requires-clause-nest_value_2
reduce-requires-clause-nest_value_2 c =
    one_loop_paper c.args.nest c.requires.counted c.requires.nest_value c.if-nest-eq0.false

pub plan-key-requires-clause-nest_value : goal.plan-key-requires-clause-nest_value
plan-key-requires-clause-nest_value c =
    ring_valid c.args.nest c.requires.counted c.requires.nest_value c.if-nest-eq0.false c.in_ok-ring.ring
    (rw c.in_ok-ring.was at c.reduce.ensures)

pub returns : goal.returns
returns c =
    paper_barred c.args.nest c.requires.counted c.requires.nest_value c.if-nest-eq0.false c.in_ok-ring.ring
    (rw c.in_ok-ring.was at c.reduce.ensures) c.plan-key.result c.taken_back.result c.plan-key.ensures
    c.taken_back.ensures
