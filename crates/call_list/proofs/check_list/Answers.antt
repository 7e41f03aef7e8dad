-- What is begun holds before the first record (`taken_none`), a turn takes one more (`taken_one`), and at the end all
-- are taken (`taken_all`).
use native.Mathlib.Omega.{arith}
use Rattle.paper_nests.specs.declared.Dependence.{Dependence}
use Rattle.desk.specs.Desks.{desk_in}
use Rattle.call_list.specs.Lists.{all_deps}
use Rattle.call_list.proofs.Turns.{taken_none, taken_one, taken_all}
use Rattle.call_list.proofs.check_list.Goals as goal

pub loop-i-init : goal.loop-i-init
loop-i-init c =
    taken_none (desk_in c.args.desk) (all_deps c.args.list.now) c.begin-found.result c.begin-found.ensures

pub loop-i-preserved : goal.loop-i-preserved
loop-i-preserved c =
    let past : Dependence = record { kind = 0; d = 0; s = 0; t = 0 } in
    taken_one (desk_in c.args.desk) c.args.list.now c.loop-i.i c.loop-i.found c.loop-i.invariant past
    c.step-found.result c.loop-i-test.true c.step-found.ensures

pub returns : goal.returns
returns c =
    taken_all c.args.desk c.args.list.now _ c.loop-i.found c.loop-i.invariant (omega arith)
