-- The tests are those of the definition, in its order.
use mathlib.Core.Path.{sym, ◌∙◌}
use native.Mathlib.Omega.{arith}
use Rattle.paper_placements.specs.Words.{gaps_in}
use Rattle.paper_placements.proofs.Words.{in_gaps}
use Rattle.paper_texts.proofs.Barriers.{barrier_barred, barrier_good}
use borrow.Author.Rules.{rules}
use Rattle.paper_texts.proofs.barrier_fault.Goals as goal

pub returns-then-holds : goal.returns-then-holds
returns-then-holds c l i =
    let a = c.args in
    let g = a.f.a in
    barrier_barred a.last a.points (gaps_in a.barred.words) a.f l i c.if-f-ne-BARRIER.false c.if-f-ne2.false
    (omega arith) (omega arith)
    (in_gaps a.barred.words g (search rules) ∙ sym c.holds.ensures ∙ c.if-holds.true)

pub returns : goal.returns
returns c l i =
    let a = c.args in
    let g = a.f.a in
    barrier_good a.last a.points (gaps_in a.barred.words) a.f l i c.if-f-ne-BARRIER.false c.if-f-ne2.false
    (omega arith) (omega arith)
    (in_gaps a.barred.words g (search rules) ∙ sym c.holds.ensures ∙ c.if-holds.false)
