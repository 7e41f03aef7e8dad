-- A line's set is stored in the cell of its home and start where its end is the reach; else nothing changes.
use mathlib.Core.Path.{◌≡◌}
use mathlib.Core.List.{List}
use Prim.Native.Nat.{ℕ, suc, ◌+◌, ◌<◌}
use native.Mathlib.Omega.{arith}
use Rattle.paper_nests.specs.Kinds.{INDEPENDENT, POINTS}
use Rattle.paper_nests.specs.Loops.{owner_from}
use Rattle.paper_nests.specs.Nests.{Dep}
use Rattle.paper_nests.specs.Stored.{dep_in}
use Rattle.paper_nests.proofs.Deps.{Fits, is-line}
use Rattle.plan_tables.specs.Charts.{TABLE, cell, Points, Charted}
use Rattle.plan_tables.proofs.Cells.{Tall}
use Rattle.plan_tables.proofs.Entering.{line_there}
use Rattle.argue_sets.proofs.Numbering.{line_passed, line_put}
use Rattle.argue_sets.proofs.number_line.Goals as goal

module _ {ps own ends heights : List ℕ} (points : Points ps) (charted : Charted ps own ends heights) where
  tall : Tall ps heights
  tall = record { points = points; heights_are = charted.heights_are }

  -- where a line stands
  homed :
      {e : Dep} {x : ℕ} → Fits ps e → e.kind ≡ INDEPENDENT → x ≡ owner_from (suc e.s) e.t ps →
      (x < POINTS) × (cell heights x (e.s + 1) < TABLE)
  homed {e} f k x_is = line_there tall (is-line ps e f k) x_is

pub offset_bounds-chart-home : goal.offset_bounds-chart-home
offset_bounds-chart-home c =
    let r = c.requires in
    omega (arith, homed r.points r.charted r.fits c.if-e-ne-INDEPENDENT.false c.home_of-home.ensures)

pub bounds-chart-home : goal.bounds-chart-home
bounds-chart-home c =
    let r = c.requires in
    let z = homed r.points r.charted r.fits c.if-e-ne-INDEPENDENT.false c.home_of-home.ensures in
    omega (arith, c.requires.chart_room.heights_room)

pub overflow_mul-place : goal.overflow_mul-place
overflow_mul-place c =
    let r = c.requires in
    omega (arith, homed r.points r.charted r.fits c.if-e-ne-INDEPENDENT.false c.home_of-home.ensures)

pub overflow_add-place-2 : goal.overflow_add-place-2
overflow_add-place-2 c =
    let r = c.requires in
    omega (arith, homed r.points r.charted r.fits c.if-e-ne-INDEPENDENT.false c.home_of-home.ensures)

pub offset_bounds-reach-place : goal.offset_bounds-reach-place
offset_bounds-reach-place c =
    let r = c.requires in
    omega (arith, homed r.points r.charted r.fits c.if-e-ne-INDEPENDENT.false c.home_of-home.ensures)

pub bounds-reach-place : goal.bounds-reach-place
bounds-reach-place c =
    let r = c.requires in
    let z = homed r.points r.charted r.fits c.if-e-ne-INDEPENDENT.false c.home_of-home.ensures in
    omega (arith, c.requires.in_bounds.0)

pub returns-else-reach-place : goal.returns-else-reach-place
returns-else-reach-place c =
    let line = is-line c.args.chart.now.points.now (dep_in c.args.e) c.requires.fits c.if-e-ne-INDEPENDENT.false in
    line_passed (tall c.requires.points c.requires.charted) line c.home_of-home.ensures c.if-reach-place.false

pub bounds-sets-place : goal.bounds-sets-place
bounds-sets-place c =
    let r = c.requires in
    let z = homed r.points r.charted r.fits c.if-e-ne-INDEPENDENT.false c.home_of-home.ensures in
    omega (arith, c.requires.in_bounds.1)

pub returns-then-reach-place : goal.returns-then-reach-place
returns-then-reach-place c =
    let line = is-line c.args.chart.now.points.now (dep_in c.args.e) c.requires.fits c.if-e-ne-INDEPENDENT.false in
    line_put (tall c.requires.points c.requires.charted) line c.home_of-home.ensures c.if-reach-place.true
    c.requires.in_bounds.1
