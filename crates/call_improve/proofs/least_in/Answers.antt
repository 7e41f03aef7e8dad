use mathlib.Core.Path.{◌≡◌, ◌∙◌}
use Prim.Native.Nat.{◌+◌, ◌-◌, ◌<◌}
use native.Mathlib.Omega.{arith}
use lib.ListN.{get_or, drop, length-take}
use lib.Seq.{get_or-take, get_or-drop}
use borrow.Rule.Slice.PartMut.{mid_of}
use Rattle.std.proofs.lemmas.Bool.Decides.{nat_tests}
use Rattle.call_improve.proofs.GapRanges.{least_on}
use Rattle.call_improve.proofs.least_in.Goals as goal

pub loop-w-preserved : goal.loop-w-preserved
loop-w-preserved c =
    let i = c.args in
    let table = i.times.now in
    let j = c.loop-w.w-index in
    let n = i.hi + 1 - (i.lo + 1) in
    let under : j < n = omega (arith, length-take n (drop (i.lo + 1) table)) in
    let here : get_or (mid_of (i.lo + 1) n table) j 0 ≡ get_or table (i.lo + 1 + j) 0 =
    get_or-take n (drop (i.lo + 1) table) j 0 under ∙ get_or-drop (i.lo + 1) table j 0 in
    let place : i.lo + 1 + j ≡ i.lo + j + 1 = omega arith in
    let far : i.lo + (j + 1) ≡ i.lo + j + 1 = omega arith in
    rw far (least_on c.loop-w.invariant (grind (arith, nat_tests, rw place at here)))
