-- `dependence_gaps` meets its contract: the gaps of a dependence that is there are put from the end of its loop on
-- (proofs/Answers).
use mathlib.Core.Path.{refl}
use native.Mathlib.Omega.{arith}
use Rattle.std.proofs.lemmas.Bool.{not-false}
use Rattle.paper_gaps.proofs.Lies.{found_lies}
use Rattle.call_gaps.proofs.Answers.{with_ends, gaps_given}
use Rattle.call_gaps.proofs.dependence_gaps.Goals as goal

pub with_gaps-requires : goal.with_gaps-requires
with_gaps-requires c =
    let a = c.args in
    let ends = rw c.points.ensures at c.ends_of-ends.ensures in
    found_lies (with_ends a.desk a.dependence c.requires (not-false _ c.if-not-desk.false) c.ends_of-ends.result ends) (omega arith)

pub returns : goal.returns
returns c =
    let a = c.args in
    let ends = rw c.points.ensures at c.ends_of-ends.ensures in
    gaps_given a.desk a.dependence c.requires (not-false _ c.if-not-desk.false) c.ends_of-ends.result ends (omega arith)
    c.empty.result.words _ c.empty.ensures refl refl c.with_gaps.ensures
