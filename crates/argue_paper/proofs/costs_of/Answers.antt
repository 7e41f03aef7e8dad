-- The planner's key has the cost of every loop (Costs).
use Rattle.paper_nests.specs.Stored.{nest_in}
use Rattle.plan_tables.proofs.Preparing.{points_of}
use Rattle.argue_paper.proofs.Costs.{plan_gaps, costs}
use Rattle.argue_paper.proofs.costs_of.Goals as goal

pub counts_of-requires : goal.counts_of-requires
counts_of-requires c =
    let n = nest_in c.args.nest in
    let v = c.requires.nest_value in
    let w = points_of n v in
    record {
      points_value = rw c.points.ensures (w.shape, w.few);
      words_value = rw c.points.ensures (plan_gaps n v c.plan.result.words c.plan.ensures);
    }

pub returns : goal.returns
returns c =
    costs (nest_in c.args.nest) c.requires.nest_value c.plan.result.words c.counts_of.result c.plan.ensures
    (rw c.points.ensures at c.counts_of.ensures)
