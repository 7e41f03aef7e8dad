-- `listed_by` meets its contract: the flagged loops with a barrier inside (`barriered`), and of these the ones that the
-- dependence adds to none (`listed_alone`).
use Rattle.paper_nests.specs.Stored.{dep_in, nest_in}
use Rattle.paper_nests.proofs.Deps.{valid_is, deps_fit}
use Rattle.call_missing.proofs.Gathering.{are_loops, barriered, listed_alone}
use Rattle.call_missing.proofs.Missing.{flag_bits, flags_are_dos}
use Rattle.call_missing.proofs.listed_by.Goals as goal

pub list_by-requires-clause-are_loops : goal.list_by-requires-clause-are_loops
list_by-requires-clause-are_loops c =
    let n = nest_in c.args.nest in
    let v = valid_is n c.requires.nest_value in
    are_loops n.points c.ends_of-ends.result c.set_of.result.words c.args.p.words c.with_barrier-loops.result.words
    v.shape v.few_points (rw c.points.ensures at c.ends_of-ends.ensures) c.with_barrier-loops.ensures
    (flags_are_dos n c.requires.nest_value c.set_of.result.words c.flagged_loops.ensures c.set_of.ensures)

pub returns : goal.returns
returns c =
    let n = nest_in c.args.nest in
    let e = c.args.e in
    let v = valid_is n c.requires.nest_value in
    listed_alone c.empty.result.words e c.list_by.result.words
    (barriered n.points c.ends_of-ends.result c.set_of.result.words c.args.p.words c.with_barrier-loops.result.words v.shape
    v.few_points (rw c.points.ensures at c.ends_of-ends.ensures) c.with_barrier-loops.ensures n.flagged
    (flag_bits n c.requires.nest_value c.set_of.result.words c.flagged_loops.ensures c.set_of.ensures))
    (deps_fit n.points n.deps v.all-deps (dep_in e) c.requires.among) c.empty.ensures
    c.list_by.ensures
