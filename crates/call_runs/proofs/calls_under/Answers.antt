-- `calls_under` meets its contract: where the turns fit, they are within the bounds of the count (`fit_lower`).
use mathlib.Core.Path.{sym, ◌∙◌}
use Rattle.paper_nests.specs.Stored.{nest_in}
use Rattle.paper_nests.proofs.Deps.{valid_is}
use Rattle.run_barriers.specs.Calls.{OUTER}
use Rattle.run_barriers.proofs.Turns.{fit_lower}
use Rattle.call_runs.proofs.Countable.{countable}
use Rattle.call_runs.proofs.calls_under.Goals as goal

pub calls_of-requires-clause-points_value : goal.calls_of-requires-clause-points_value
calls_of-requires-clause-points_value c =
    let w = valid_is (nest_in c.args.nest) c.requires.nest_value in
    rw c.points.ensures (w.shape, w.few_points)

pub calls_of-requires-clause-turns_value : goal.calls_of-requires-clause-turns_value
calls_of-requires-clause-turns_value c =
    let a = c.args in
    let n = nest_in a.nest in
    let fits = (countable a.inner n a.turns.now (sym c.can_count.ensures ∙ c.if-not-can_count.false)).fits in
    rw c.points.ensures (fit_lower OUTER a.inner n.points a.turns.now fits)
