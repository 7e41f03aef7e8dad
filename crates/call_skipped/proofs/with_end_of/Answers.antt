-- `with_end_of` meets its contract: where the dependence goes forward into the next turn, the flagged loops that have
-- one of its ends alone (`one_end_set`), else none (`no_one_end`).
use mathlib.Core.Path.{sym, ◌∙◌}
use Rattle.paper_nests.specs.Stored.{dep_in, nest_in}
use Rattle.paper_nests.proofs.Deps.{valid_is}
use Rattle.paper_nests.proofs.Flags.{flag_is_do}
use Rattle.call_skipped.proofs.OneEnd.{no_one_end, one_end_set}
use Rattle.call_skipped.proofs.with_end_of.Goals as goal

pub returns-then-not-goes_on : goal.returns-then-not-goes_on
returns-then-not-goes_on c =
    let n = nest_in c.args.nest in
    let v = valid_is n c.requires.nest_value in
    no_one_end n.points n.flagged (dep_in c.args.e) (flag_is_do n.points n.flagged v.all_flags)
    c.empty.result.words v.few_points (sym c.goes_on.ensures ∙ c.if-not-goes_on.true)
    c.empty.ensures

pub returns : goal.returns
returns c =
    let n = nest_in c.args.nest in
    let v = valid_is n c.requires.nest_value in
    one_end_set n.points n.flagged (dep_in c.args.e) (flag_is_do n.points n.flagged v.all_flags)
    c.ends_of-ends.result c.set_of-flagged.result.words c.with_one_end.result.words v.shape v.few_points
    (rw c.points.ensures at c.ends_of-ends.ensures) (rw c.flagged_loops.ensures at c.set_of-flagged.ensures)
    (sym c.goes_on.ensures ∙ c.if-not-goes_on.false) c.with_one_end.ensures
