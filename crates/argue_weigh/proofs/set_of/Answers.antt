-- `set_of` meets its contract where the set is a dependence's (`set_dep`).
use mathlib.Core.Path.{refl}
use Rattle.argue_weigh.proofs.StepSets.{set_dep}
use Rattle.argue_weigh.proofs.set_of.Goals as goal

pub with_gaps-requires : goal.with_gaps-requires
with_gaps-requires c =
    let w = c.in-Dependence-Some in
    rw w.is-1 at (c.requires.lies w.field-0-0 (rw w.is-0 refl))

pub returns-in-Dependence-Some : goal.returns-in-Dependence-Some
returns-in-Dependence-Some c =
    let w = c.in-Dependence-Some in
    set_dep c.args.claim c.args.step c.empty-none.result.words c.with_gaps.result.words c.empty-none.ensures w.is-0
    w.is-1 c.with_gaps.ensures
