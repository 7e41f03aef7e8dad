-- `cheapest_of` meets its contract: the least entry of its one range, or of its two.
use native.Mathlib.Omega.{arith}
use Rattle.call_improve.proofs.GapRanges.{cheapest_line, cheapest_ring}
use borrow.Author.Rules.{rules}
use mathlib.Core.Path.{◌∙◌}
use Rattle.std.proofs.lemmas.Bool.Decides.{nat_tests}
use Rattle.call_improve.proofs.cheapest_of.Goals as goal

pub least_in-requires : goal.least_in-requires
least_in-requires c = (omega (arith, c.requires.forward c.if-e-eq-INDEPENDENT.true), search rules)

pub returns-then-e-eq-INDEPENDENT : goal.returns-then-e-eq-INDEPENDENT
returns-then-e-eq-INDEPENDENT c =
    let a = c.args in
    cheapest_line a.e a.end c.least_in.result c.if-e-eq-INDEPENDENT.true c.least_in.ensures

pub least_in-a-requires : goal.least_in-a-requires
least_in-a-requires c =
    let p = c.requires in
    let k = c.if-e-eq-INDEPENDENT.false in
    (omega (arith, p.target_after k), omega (arith, p.target_before k, p.inside k))

pub least_in-b-requires : goal.least_in-b-requires
least_in-b-requires c =
    let p = c.requires in
    let k = c.if-e-eq-INDEPENDENT.false in
    (omega (arith, p.source_before k), omega (arith, p.inside k))

pub returns : goal.returns
returns c =
    cheapest_ring c.args.e c.args.end c.if-e-eq-INDEPENDENT.false c.least_in-a.ensures c.least_in-b.ensures
    (c.min.ensures ∙ grind (arith, nat_tests))
