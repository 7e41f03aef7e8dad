use mathlib.Core.Path.{◌≡◌, subst}
use Prim.Native.Nat.{ℕ, ◌+◌, ◌*◌, ◌/◌}
use native.Mathlib.Omega.{arith}
use lib.ListN.{length}
use Rattle.desk.specs.Desks.{desk_in}
use Rattle.host.specs.Records.{records_of}
use Rattle.call_list.proofs.Steps.{steps_say}
use Rattle.host.proofs.Bytes.{Taken, taken_none, taken_one, taken_left, taken_all}
use Rattle.host.proofs.desk_list.Goals as goal

pub ends_on-ends-requires : goal.ends_on-ends-requires
ends_on-ends-requires c = c.requires

pub loop-i-init : goal.loop-i-init
loop-i-init c =
    let a = c.args in
    taken_none (desk_in a.desk) a.list.now c.begin-found.result c.begin-found.ensures

pub step-found-requires : goal.step-found-requires
step-found-requires c = (
  c.requires.counted,
  (c.ends_on-ends.ensures, omega arith),
)

pub loop-i-preserved : goal.loop-i-preserved
loop-i-preserved c =
    let a = c.args in
    let i = c.loop-i.i in
    let next : (i + 1) * 4 ≡ i * 4 + 4 = omega arith in
    rw next
    (taken_one (desk_in a.desk) a.list.now i (i * 4) c.loop-i.found c.loop-i.invariant c.step-found.result
    (omega arith)
    c.step-found.ensures)

pub step-requires : goal.step-requires
step-requires c = (
  c.requires.counted,
  (c.ends_on-ends.ensures, omega arith),
)

pub returns-then-end-list : goal.returns-then-end-list
returns-then-end-list c =
    let a = c.args in
    let n = length a.list.now / 4 in
    let all : c.loop-i.i ≡ n = omega arith in
    let taken : Taken (desk_in a.desk) a.list.now n (n * 4) c.loop-i.found =
    subst (λ (k : ℕ). Taken (desk_in a.desk) a.list.now k (k * 4) c.loop-i.found) all c.loop-i.invariant in
    steps_say a.desk (records_of a.list.now) c.step.result
    (taken_left (desk_in a.desk) a.list.now n (n * 4) c.loop-i.found taken c.step.result
    (omega arith)
    (omega arith)
    c.step.ensures)

pub returns : goal.returns
returns c =
    let a = c.args in
    steps_say a.desk (records_of a.list.now) c.loop-i.found
    (taken_all (desk_in a.desk) a.list.now c.loop-i.i (c.loop-i.i * 4) c.loop-i.found c.loop-i.invariant (omega arith))
