use mathlib.Core.List.{List}
use Prim.Native.Nat.{ℕ}
use Rattle.plan_tables.specs.Charts.{Points, Charted}
use Rattle.plan_tables.proofs.Cells.{Tall}
use Rattle.argue_sets.proofs.Numbering.{next_fits, number_start, number_on, number_done}
use Rattle.argue_sets.proofs.number_lines.Goals as goal

-- the points and the heights
tall : {ps own ends heights : List ℕ} → Points ps → Charted ps own ends heights → Tall ps heights
tall p c = record { points = p; heights_are = c.heights_are }

pub loop-i-init : goal.loop-i-init
loop-i-init c =
    let t = tall c.requires.points c.requires.charted in
    number_start c.requires.counted t c.requires.in_bounds.1 c.requires.unnumbered

pub number_line-requires-clause-fits : goal.number_line-requires-clause-fits
number_line-requires-clause-fits c =
    next_fits c.requires.counted c.loop-i-test.true c.loop-i.invariant.here c.requires.all_fit

pub loop-i-preserved : goal.loop-i-preserved
loop-i-preserved c =
    let t = tall c.requires.points c.requires.charted in
    number_on c.requires.counted t c.loop-i.invariant c.loop-i-test.true c.requires.rows
    c.number_line.ensures c.number_line.auto.sets

pub returns : goal.returns
returns c =
    let t = tall c.requires.points c.requires.charted in
    number_done c.requires.counted t c.loop-i.invariant c.loop-i-test.false
