-- `missing_runs` meets its contract: a desk with a key is ready for it (`ready`), and the bits of the flagged loops are
-- those of the nest (`flag_bits`).
use mathlib.Core.Path.{refl, sym}
use mathlib.Core.Bool.{true}
use Rattle.paper_nests.specs.Stored.{nest_in}
use Rattle.desk.specs.Desks.{desk_in, state_fault}
use Rattle.desk.proofs.Ready.{ready}
use Rattle.desk.proofs.Choosing.{chooses}
use Rattle.call_missing.specs.Says.{missing_on}
use Rattle.call_missing.proofs.Missing.{flag_bits, flags_are_dos}
use Rattle.call_missing.proofs.missing_runs.Goals as goal

pub listed_loops-requires-clause-are_dos : goal.listed_loops-requires-clause-are_dos
listed_loops-requires-clause-are_dos c =
    let y = ready c.args.desk c.requires (sym c.in_default.ensures) in
    flags_are_dos (nest_in c.args.desk.nest) y.valid c.set_of-flagged.result.words c.flagged_loops.ensures
    c.set_of-flagged.ensures

pub returns : goal.returns
returns c =
    let d = c.args.desk in
    let none = sym c.in_default.ensures in
    let y = ready d c.requires none in
    let n = nest_in d.nest in
    chooses (state_fault true (desk_in d)) (missing_on (desk_in d)) _ none refl refl
    (c.listed_loops.ensures n.flagged
    (flag_bits n y.valid c.set_of-flagged.result.words c.flagged_loops.ensures c.set_of-flagged.ensures))
