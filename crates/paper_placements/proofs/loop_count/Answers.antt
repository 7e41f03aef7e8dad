-- `loop_count` meets its contract: the shared ones of the four words, one after another (`words_tally`).
use native.Mathlib.Omega.{arith}
use Rattle.paper_placements.proofs.Masked.{words_tally}
use Rattle.paper_placements.proofs.loop_count.Goals as goal

pub returns : goal.returns
returns c =
    let a = c.args in
    let z = words_tally a.p.words a.mask.words in
    omega (arith, z, c.shared.ensures.0, c.shared-2.ensures.0, c.shared-3.ensures.0, c.shared-4.ensures.0)
