-- `refused` meets its contract: the empty placement has no gap (`gaps_none`).
use mathlib.Core.Path.{◌≡◌}
use mathlib.Core.List.{[]}
use Rattle.paper_placements.specs.Words.{gaps_in}
use Rattle.paper_placements.proofs.Words.{gaps_none}
use Rattle.call_compare.proofs.refused.Goals as goal

pub returns : goal.returns
returns c =
    let none : gaps_in c.empty.result.words ≡ [] = gaps_none c.empty.result.words (λ i l. c.empty.ensures i) in
    rw (c.from.ensures, none)
