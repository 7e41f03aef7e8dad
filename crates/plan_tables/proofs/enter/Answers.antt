-- `enter` meets its contract: an independent dependence lowers the reach at its home (`line_entered`), a carried one
-- what goes back at its source (`back_entered`).
use mathlib.Core.Path.{◌≡◌}
use mathlib.Core.List.{List}
use Prim.Native.Nat.{ℕ, suc, ◌+◌, ◌<◌}
use native.Mathlib.Omega.{arith}
use Rattle.paper_nests.specs.Kinds.{INDEPENDENT, POINTS}
use Rattle.paper_nests.specs.Loops.{owner_from}
use Rattle.paper_nests.specs.Nests.{Dep}
use Rattle.paper_nests.specs.Stored.{dep_in}
use Rattle.paper_nests.proofs.Deps.{Fits, is-line, is-back}
use Rattle.plan_tables.specs.Charts.{TABLE, cell, Points, Charted}
use Rattle.plan_tables.proofs.Cells.{Tall}
use Rattle.plan_tables.proofs.Entering.{line_there, back_there, line_entered, back_entered}
use Rattle.plan_tables.proofs.enter.Goals as goal

module _ {ps own ends heights : List ℕ} (points : Points ps) (charted : Charted ps own ends heights) where
  tall : Tall ps heights
  tall = record { points = points; heights_are = charted.heights_are }

  -- where an independent dependence stands, and a carried one
  homed :
      {e : Dep} {x : ℕ} → Fits ps e → e.kind ≡ INDEPENDENT → x ≡ owner_from (suc e.s) e.t ps →
      (x < POINTS) × (cell heights x (e.s + 1) < TABLE)
  homed {e} f k x_is = line_there tall (is-line ps e f k) x_is

  backed : {e : Dep} → Fits ps e → (e.kind ≡ INDEPENDENT → ⊥) → (e.d < POINTS) × (cell heights e.d e.s < TABLE)
  backed {e} f k = back_there tall (is-back ps e f k)

pub offset_bounds-chart-home : goal.offset_bounds-chart-home
offset_bounds-chart-home c =
    let r = c.requires in
    omega (arith, homed r.points r.charted r.fits c.if-e-eq-INDEPENDENT.true c.home_of-home.ensures)

pub bounds-chart-home : goal.bounds-chart-home
bounds-chart-home c =
    let r = c.requires in
    let z = homed r.points r.charted r.fits c.if-e-eq-INDEPENDENT.true c.home_of-home.ensures in
    omega (arith, c.requires.chart_room.heights_room)

pub overflow_mul-chart : goal.overflow_mul-chart
overflow_mul-chart c =
    let r = c.requires in
    omega (arith, homed r.points r.charted r.fits c.if-e-eq-INDEPENDENT.true c.home_of-home.ensures)

pub overflow_add-chart : goal.overflow_add-chart
overflow_add-chart c =
    let r = c.requires in
    omega (arith, homed r.points r.charted r.fits c.if-e-eq-INDEPENDENT.true c.home_of-home.ensures)

pub lower-requires : goal.lower-requires
lower-requires c =
    let r = c.requires in
    let z = homed r.points r.charted r.fits c.if-e-eq-INDEPENDENT.true c.home_of-home.ensures in
    omega (arith, c.requires.lines_room.reach_room)

pub offset_bounds-has-home : goal.offset_bounds-has-home
offset_bounds-has-home c =
    let r = c.requires in
    omega (arith, homed r.points r.charted r.fits c.if-e-eq-INDEPENDENT.true c.home_of-home.ensures)

pub bounds-has-home : goal.bounds-has-home
bounds-has-home c =
    let r = c.requires in
    let z = homed r.points r.charted r.fits c.if-e-eq-INDEPENDENT.true c.home_of-home.ensures in
    omega (arith, c.requires.lines_room.has_room)

pub returns-then-e-eq-INDEPENDENT : goal.returns-then-e-eq-INDEPENDENT
returns-then-e-eq-INDEPENDENT c ds p =
    let f = is-line c.args.chart.now.points.now (dep_in c.args.e) c.requires.fits c.if-e-eq-INDEPENDENT.true in
    rw c.lower.ensures
    (line_entered (tall c.requires.points c.requires.charted) c.requires.lines_room p f c.home_of-home.ensures)

pub returns-else-e-eq-INDEPENDENT : goal.returns-else-e-eq-INDEPENDENT
returns-else-e-eq-INDEPENDENT c ds p =
    let f = is-back c.args.chart.now.points.now (dep_in c.args.e) c.requires.fits c.if-e-eq-INDEPENDENT.false in
    rw c.lower-else-e-eq-INDEPENDENT.ensures
    (back_entered (tall c.requires.points c.requires.charted) c.requires.lines_room p f)
