use Prim.Native.Nat.{◌-◌}
use native.Mathlib.Omega.{arith}
use lib.ListN.{get_or}
use Rattle.paper_nests.specs.declared.Dependence as DE
use Rattle.paper_nests.specs.Stored.{nest_in}
use Rattle.paper_nests.proofs.Deps.{valid_is}
use Rattle.paper_nests.proofs.Stored.{deps_in_at, counted_many}
use Rattle.call_missing.proofs.Gathering.{are_loops, barriered, gather_start, gather_on, gather_done}
use Rattle.call_missing.proofs.listed_loops.Goals as goal

-- what a list of dependences has past its end
abbrev no_dependence : DE.Dependence
no_dependence = record { kind = 0; d = 0; s = 0; t = 0 }

pub loop-i-init : goal.loop-i-init
loop-i-init c = gather_start c.requires.counted.many_is c.empty-listed.ensures

pub list_by-listed-requires-clause-are_loops : goal.list_by-listed-requires-clause-are_loops
list_by-listed-requires-clause-are_loops c =
    let a = c.args in
    let n = nest_in a.nest in
    let v = valid_is n c.requires.nest_value in
    are_loops n.points c.ends_of-ends.result a.flagged.words a.key.words c.with_barrier-loops.result.words v.shape
    v.few_points (rw c.points.ensures at c.ends_of-ends.ensures) c.with_barrier-loops.ensures c.requires.are_dos

pub loop-i-preserved : goal.loop-i-preserved
loop-i-preserved c =
    let n = c.args.nest in
    let i = c.loop-i.i in
    gather_on c.loop-i-test.true c.loop-i.invariant (valid_is (nest_in n) c.requires.nest_value).all-deps
    (get_or n.deps (i - 1) no_dependence)
    (deps_in_at n.many n.deps (i - 1) no_dependence (omega arith) (counted_many n c.requires.counted))
    c.list_by-listed.ensures

pub returns : goal.returns
returns c =
    let a = c.args in
    let n = nest_in a.nest in
    let v = valid_is n c.requires.nest_value in
    gather_done a.flagged.words c.loop-i-test.false c.loop-i.invariant v.few_points
    (barriered n.points c.ends_of-ends.result a.flagged.words a.key.words c.with_barrier-loops.result.words v.shape
    v.few_points (rw c.points.ensures at c.ends_of-ends.ensures) c.with_barrier-loops.ensures)
