-- `one_end` meets its contract: the set is that of the dependence of that number (`one_end_given`).
use mathlib.Core.Path.{refl, sym, ◌∙◌}
use native.Mathlib.Omega.{arith}
use Rattle.std.proofs.lemmas.Bool.{not-false}
use Rattle.paper_nests.specs.Stored.{nest_in}
use Rattle.call_skipped.specs.OneEnd.{one_end_by}
use Rattle.call_skipped.proofs.Relied.{number_has}
use Rattle.call_skipped.proofs.Answers.{one_end_given}
use Rattle.call_skipped.proofs.one_end.Goals as goal

pub returns : goal.returns
returns c =
    let d = c.args.desk in
    let i = c.args.dependence in
    let n = nest_in d.nest in
    let has = number_has d.nest c.requires.counted i (omega arith) (one_end_by n.points n.flagged) in
    one_end_given d i c.requires.counted (not-false _ c.if-not-desk.false) (omega arith) _ refl refl
    (c.with_end_of.ensures ∙ sym has)
