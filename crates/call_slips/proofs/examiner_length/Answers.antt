-- `examiner_length` meets its contract: a line more than the candidate's slip, and one for each dependence.
use mathlib.Core.List.{[]}
use Prim.Native.Nat.{◌≤◌}
use native.Mathlib.Omega.{arith}
use Rattle.paper_nests.specs.Stored.{nest_in}
use Rattle.call_slips.proofs.Lengths.{slip_most, examiner_length}
use Rattle.call_slips.proofs.examiner_length.Goals as goal

pub overflow_add-result : goal.overflow_add-result
overflow_add-result c =
    let most : c.slip_length.result ≤ 1799 = let n = nest_in c.args.nest in
    omega (arith, c.slip_length.ensures [], slip_most n [], c.requires.count_is, c.requires.count_fits) in
    omega (arith, most)

pub overflow_add-result-2 : goal.overflow_add-result-2
overflow_add-result-2 c =
    let most : c.slip_length.result ≤ 1799 = let n = nest_in c.args.nest in
    omega (arith, c.slip_length.ensures [], slip_most n [], c.requires.count_is, c.requires.count_fits) in
    omega (arith, most, c.requires.many_fits)

pub returns : goal.returns
returns c =
    let n = c.args.nest in
    λ key gs. omega (arith, c.requires.many_is, examiner_length (nest_in n) _ c.slip_length.ensures key gs)
