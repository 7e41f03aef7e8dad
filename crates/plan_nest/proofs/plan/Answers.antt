-- `plan` meets its contract: the tables are what settling and laying ask, and what loop 0 lays is the key (Planning).
use native.Mathlib.Omega.{arith}
use lib.ListN.{length}
use Rattle.laws.proofs.Copies.{copies}
use Rattle.paper_nests.specs.Stored.{nest_in}
use Rattle.paper_nests.proofs.Levels.{starts_with_do}
use Rattle.paper_nests.proofs.Loops.{end-after}
use Rattle.plan_tables.proofs.Preparing.{unowned_filled, blank_filled, points_of, fits_of}
use Rattle.plan_nest.proofs.Planning.{charts, choices, key, unset_top}
use Rattle.plan_nest.proofs.plan.Goals as goal

pub prepare-requires-clause-points : goal.prepare-requires-clause-points
prepare-requires-clause-points c = points_of (nest_in c.args.nest) c.requires.nest_value

pub prepare-requires-clause-all_fit : goal.prepare-requires-clause-all_fit
prepare-requires-clause-all_fit c = fits_of (nest_in c.args.nest) c.requires.nest_value

pub prepare-requires-clause-unowned : goal.prepare-requires-clause-unowned
unfolding copies
prepare-requires-clause-unowned c = unowned_filled

pub prepare-requires-clause-blank : goal.prepare-requires-clause-blank
unfolding copies
prepare-requires-clause-blank c =
    let n = c.args.nest in blank_filled n.count (length (nest_in n).points) c.requires.counted.count_is

pub settle-requires-clause-charts : goal.settle-requires-clause-charts
settle-requires-clause-charts c =
    let n = nest_in c.args.nest in
    let w = points_of n c.requires.nest_value in
    let p = c.prepare.new in
    rw c.points.ensures
    (charts n.points n.deps p.own p.ends p.heights p.reach p.limit p.has w c.prepare.ensures
    (omega (arith, c.prepare.auto.own)) (omega (arith, c.prepare.auto.ends)))

pub settle-requires-clause-unset : goal.settle-requires-clause-unset
settle-requires-clause-unset c =
    let n = nest_in c.args.nest in
    let w = points_of n c.requires.nest_value in
    rw c.points.ensures (unset_top n.points w.shape c.requires.counted.count_is c.clear_rows.ensures)

pub settle-requires-clause-unset_2 : goal.settle-requires-clause-unset_2
settle-requires-clause-unset_2 c =
    let n = nest_in c.args.nest in
    let w = points_of n c.requires.nest_value in
    rw c.points.ensures (unset_top n.points w.shape c.requires.counted.count_is c.clear_rows-2.ensures)

pub lay-requires-clause-charts : goal.lay-requires-clause-charts
lay-requires-clause-charts c =
    let n = nest_in c.args.nest in
    let w = points_of n c.requires.nest_value in
    let p = c.prepare.new in
    rw c.points.ensures
    (charts n.points n.deps p.own p.ends p.heights p.reach p.limit p.has w c.prepare.ensures
    (omega (arith, c.prepare.auto.own)) (omega (arith, c.prepare.auto.ends)))

pub lay-requires-clause-q_bound : goal.lay-requires-clause-q_bound
lay-requires-clause-q_bound c =
    let ps = (nest_in c.args.nest).points in
    let w = points_of (nest_in c.args.nest) c.requires.nest_value in
    rw c.points.ensures (end-after ps w.shape 0 (starts_with_do ps w.shape))

pub lay-requires-clause-choices : goal.lay-requires-clause-choices
lay-requires-clause-choices c =
    let n = nest_in c.args.nest in
    let w = points_of n c.requires.nest_value in
    let p = c.prepare.new in
    let s = c.settle.new in
    rw c.points.ensures
    (choices n.points n.deps p.own p.ends p.heights p.reach p.limit p.has w c.prepare.ensures s.left s.choice
    (rw c.points.ensures at c.settle.ensures.rows))

pub returns : goal.returns
returns c =
    let n = nest_in c.args.nest in
    let w = points_of n c.requires.nest_value in
    let p = c.prepare.new in
    let s = c.settle.new in
    key n.points n.deps p.own p.ends p.heights p.reach p.limit p.has w c.prepare.ensures s.left s.choice
    (rw c.points.ensures at c.settle.ensures.rows) c.empty-none.result.words c.lay.result.words
    c.empty-none.ensures (rw c.points.ensures at c.lay.ensures.lay_says)
