use mathlib.Core.Path.{◌≡◌}
use Prim.Native.Nat.{◌+◌, ◌-◌}
use native.Mathlib.Omega.{arith}
use Rattle.std.proofs.Math.Nat.{add-sub_cancel, sub-add_cancel}
use Rattle.plan_sweeps.proofs.Firsts.{first_given}
use Rattle.plan_starts.proofs.Following.{following_more}
use Rattle.plan_starts.proofs.follow.Goals as goal

pub loop-x-preserved : goal.loop-x-preserved
loop-x-preserved c =
    let here : c.loop-x.x - 1 + 1 ≡ c.loop-x.x = sub-add_cancel (omega arith) in
    let s = c.loop-x.invariant in
    rw add-sub_cancel (rw here at (following_more c.requires s (omega arith) {f = c.first_or.result}
    (rw here (first_given c.first_or.ensures))))
