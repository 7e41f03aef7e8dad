-- The tables are what settling, numbering and giving ask, and what is given is the argument (Tables).
use native.Mathlib.Omega.{arith}
use lib.ListN.{length}
use Rattle.laws.proofs.Copies.{copies}
use Rattle.paper_nests.specs.Stored.{nest_in}
use Rattle.plan_tables.proofs.Preparing.{unowned_filled, blank_filled, points_of, fits_of}
use Rattle.plan_nest.proofs.Planning.{charts}
use Rattle.argue_paper.proofs.Tables.{unset_filled, small_filled, fine, spelled}
use Rattle.argue_paper.proofs.give_tables.Goals as goal

pub prepare-requires-clause-points : goal.prepare-requires-clause-points
prepare-requires-clause-points c = points_of (nest_in c.args.nest) c.requires.nest_value

pub prepare-requires-clause-all_fit : goal.prepare-requires-clause-all_fit
prepare-requires-clause-all_fit c = fits_of (nest_in c.args.nest) c.requires.nest_value

pub prepare-requires-clause-unowned : goal.prepare-requires-clause-unowned
unfolding copies
prepare-requires-clause-unowned c = unowned_filled

pub prepare-requires-clause-blank : goal.prepare-requires-clause-blank
unfolding copies
prepare-requires-clause-blank c =
    let n = c.args.nest in blank_filled n.count (length (nest_in n).points) c.requires.counted.count_is

pub settle-requires-clause-charts : goal.settle-requires-clause-charts
settle-requires-clause-charts c =
    let n = nest_in c.args.nest in
    let w = points_of n c.requires.nest_value in
    let p = c.prepare.new in
    rw c.points.ensures
    (charts n.points n.deps p.own p.ends p.heights p.reach p.limit p.has w c.prepare.ensures
    (omega (arith, c.prepare.auto.own)) (omega (arith, c.prepare.auto.ends)))

pub settle-requires-clause-unset : goal.settle-requires-clause-unset
unfolding copies
settle-requires-clause-unset c = unset_filled

pub settle-requires-clause-unset_2 : goal.settle-requires-clause-unset_2
unfolding copies
settle-requires-clause-unset_2 c = unset_filled

pub number_lines-requires-clause-points : goal.number_lines-requires-clause-points
number_lines-requires-clause-points c =
    rw c.points.ensures (points_of (nest_in c.args.nest) c.requires.nest_value)

pub number_lines-requires-clause-all_fit : goal.number_lines-requires-clause-all_fit
number_lines-requires-clause-all_fit c =
    rw c.points.ensures (fits_of (nest_in c.args.nest) c.requires.nest_value)

pub give_loops-requires-clause-give_tables : goal.give_loops-requires-clause-give_tables
give_loops-requires-clause-give_tables c =
    let p = c.prepare.auto in
    let s = c.settle.auto in
    rw c.points.ensures
    (fine c.requires.counted c.requires.nest_value c.prepare.ensures (rw c.points.ensures at c.settle.ensures)
    (omega (arith, p.own)) (omega (arith, p.ends)) (omega (arith, p.heights)) (omega (arith, s.left))
    (omega (arith, p.reach)) (omega (arith, c.number_lines.auto.sets, c.fill.auto.self, s.choice))
    c.requires.in_bounds.0)

pub give_loops-requires-clause-lists_room : goal.give_loops-requires-clause-lists_room
unfolding copies
give_loops-requires-clause-lists_room c =
    record {
      need_room = omega (arith, c.settle.auto.need);
      sets_room = omega arith;
      sets_small = small_filled;
      claims_room = omega arith;
    }

pub returns : goal.returns
returns c =
    let z = c.points.ensures in
    spelled c.requires.counted c.requires.nest_value c.prepare.ensures (rw z at c.settle.ensures)
    (rw z at c.number_lines.ensures) c.requires.in_bounds.1 (rw z at c.give_loops.ensures)
