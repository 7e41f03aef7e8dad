use native.Mathlib.Omega.{arith}
use Rattle.paper_texts.proofs.Written.{lowest_up, length_begin, length_on, length_done}
use Rattle.paper_texts.proofs.text_length.Goals as goal

pub loop-g-init : goal.loop-g-init
loop-g-init c = (omega arith, length_begin c.args.p.words c.lowest_from-g.result c.lowest_from-g.ensures)

pub loop-g-smaller : goal.loop-g-smaller
loop-g-smaller c =
    let ws = c.args.p.words in
    omega (arith, lowest_up ws c.loop-g.g c.lowest_from-g-in-loop-g.result c.loop-g-test.true c.lowest_from-g-in-loop-g.ensures)

pub loop-g-preserved : goal.loop-g-preserved
loop-g-preserved c =
    let ws = c.args.p.words in
    let t = c.loop-g-test.true in (
      omega (arith, lowest_up ws c.loop-g.g c.lowest_from-g-in-loop-g.result t c.lowest_from-g-in-loop-g.ensures),
      length_on ws c.loop-g.n c.loop-g.g c.lowest_from-g-in-loop-g.result t c.loop-g.invariant.1 c.lowest_from-g-in-loop-g.ensures,
    )

pub returns : goal.returns
returns c = length_done c.args.p.words c.loop-g.n c.loop-g.g c.loop-g-test.false c.loop-g.invariant.1
