-- `highest` meets its contract: what it gives is the highest barrier that cuts the dependence, and there is one.
use native.Mathlib.Omega.{arith}
use borrow.Author.Rules.{rules}
use Rattle.call_improve.proofs.TopLaws.{top_is, top_of_line, top_after_source, top_before_target}
use lib.ListN.{length, get_or}
use Rattle.paper_nests.specs.Stored.{dep_in}
use Rattle.paper_placements.specs.Words.{gaps_in}
use Rattle.call_improve.proofs.highest.Goals as goal

pub returns-then-e-eq-INDEPENDENT : goal.returns-then-e-eq-INDEPENDENT
returns-then-e-eq-INDEPENDENT c =
    λ ps ws has ends rise cut.
    let a = c.args in
    top_is ps (dep_in a.e) (length ps) (gaps_in ws) (get_or a.latest.now a.e.t 0) rise cut
    (top_of_line ps ws a.latest.now has a.e cut (search rules) c.if-e-eq-INDEPENDENT.true)

pub offset_bounds-latest-end : goal.offset_bounds-latest-end
offset_bounds-latest-end c = omega (arith, c.requires.inside c.if-e-eq-INDEPENDENT.false)

pub bounds-latest-end : goal.bounds-latest-end
bounds-latest-end c = omega (arith, c.requires.inside c.if-e-eq-INDEPENDENT.false)

pub returns-then-s-h : goal.returns-then-s-h
returns-then-s-h c =
    λ ps ws has ends rise cut.
    let a = c.args in
    top_is ps (dep_in a.e) (length ps) (gaps_in ws) (get_or a.latest.now a.end 0) rise cut
    (top_after_source ps ws a.latest.now has a.e cut a.end c.requires ends c.if-e-eq-INDEPENDENT.false c.if-s-h.true)

pub returns : goal.returns
returns c =
    λ ps ws has ends rise cut.
    let a = c.args in
    top_is ps (dep_in a.e) (length ps) (gaps_in ws) (get_or a.latest.now a.e.t 0) rise cut
    (top_before_target ps ws a.latest.now has a.e cut a.end c.requires ends c.if-e-eq-INDEPENDENT.false
    c.if-s-h.false)
