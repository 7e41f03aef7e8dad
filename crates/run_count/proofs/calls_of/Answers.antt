-- `calls_of` meets its contract: the table's entries at the placement's gaps are its calls (`calls_told`).
use mathlib.Core.Path.{◌∙◌}
use native.Mathlib.Omega.{arith}
use Rattle.paper_placements.specs.Words.{gaps_in}
use Rattle.run_barriers.proofs.Sizes.{calls_in_fit}
use Rattle.run_count.proofs.Summing.{calls_told}
use Rattle.run_count.proofs.calls_of.Goals as goal

pub sum_at-requires : goal.sum_at-requires
sum_at-requires c =
    let a = c.args in
    let gs = gaps_in a.p.words in
    omega (
      arith,
      calls_told a.points.now a.turns.now c.times_of-times.result c.times_of-times.ensures gs c.requires.words_value,
      calls_in_fit a.points.now a.turns.now gs 0 0 c.requires.points_value.0 c.requires.points_value.1 c.requires.turns_value c.requires.words_value,
    )

pub returns : goal.returns
returns c =
    let a = c.args in
    c.sum_at.ensures ∙
    calls_told a.points.now a.turns.now c.times_of-times.result c.times_of-times.ensures (gaps_in a.p.words) c.requires.words_value
