use Prim.Native.Nat.{ℕ, suc, ◌+◌, ◌-◌, min}
use native.Mathlib.Omega.{arith}
use mathlib.Core.Path.{◌≡◌, ◌∙◌, ap}
use mathlib.Core.List.{List}
use lib.Dec.{eqb}
use lib.ListN.{set}
use Rattle.std.proofs.Math.Nat.{add-sub_cancel}
use Rattle.plan_method.specs.Sweep.{seek}
use Rattle.plan_sweeps.specs.Firsts.{FirstOr}
use Rattle.plan_sweeps.specs.Listed.{row}
use Rattle.plan_sweeps.proofs.Firsts.{first_given}
use Rattle.laws.specs.Choice.{first_of}
use Rattle.laws.specs.Entries.{at}
use Rattle.plan_sweeps.proofs.Steps.{seek_high}
use Rattle.plan_starts.specs.Started.{front_or, ChildRoom}
use Rattle.plan_starts.proofs.Filling.{Filling, outer_is, filling_after, filling_more}
use Rattle.plan_starts.proofs.Filling.{rebased, room_on, said_on, filled}
use Rattle.plan_starts.proofs.events_child.Goals as goal

-- the front of a barrier after the loop, and the numbers once the gap after it is filled
entered
    : {need left : List ℕ} {kids d l p : ℕ} {cs fs link : List ℕ} {last f m a : ℕ}
    → ChildRoom need left kids d l p cs fs link last
    → FirstOr eqb (λ z. z ≡ 0) (row left kids (l + 1)) (p + 1) f
    → m ≡ min last l
    → a ≡ seek (at need) (p + 1) d m
    → (f ≡ first_of (row left kids (suc l)) (suc p)) × Filling need left kids d l p cs fs link (set cs (p + 1) 1)
    (set fs (p + 1) f) (set link (p + 1) a) a p
entered room f m a = let outer = outer_is room (first_given f) in (outer, filling_after room outer m a)

pub overflow_cast-link : goal.overflow_cast-link
overflow_cast-link c =
    let z = entered c.requires c.first_or-outer.ensures c.min.ensures c.last_need-a.ensures in
    omega (arith, z.1.last_high, c.requires.short, c.requires.narrow)

pub loop-x-init : goal.loop-x-init
loop-x-init c =
    let z = entered c.requires c.first_or-outer.ensures c.min.ensures c.last_need-a.ensures in
    rw add-sub_cancel (z.0, rebased c.requires z.1)

pub overflow_cast-link-in-loop-x : goal.overflow_cast-link-in-loop-x
overflow_cast-link-in-loop-x c =
    let i = c.args in
    let r = c.requires in
    let low = seek_high (at i.need.now) (c.loop-x.x - 1) i.d c.loop-x.a in
    omega (arith, c.last_need-a-in-loop-x.ensures, c.loop-x.invariant.1.last_high, r.short, r.narrow)

pub loop-x-preserved : goal.loop-x-preserved
loop-x-preserved c =
    let z = entered c.requires c.first_or-outer.ensures c.min.ensures c.last_need-a.ensures in
    let i = c.args in
    let left = row i.inside.now.left.now i.inside.now.kids in
    let v = c.event-v.ensures i.p (omega arith) in (
      c.loop-x.invariant.0,
      filling_more (room_on c.requires z.1) c.loop-x.invariant.1 (omega arith) v.0
          (v.1 ∙ ap (front_or left i.p (c.loop-x.x - 1)) c.loop-x.invariant.0) c.last_need-a-in-loop-x.ensures,
    )

pub returns : goal.returns
returns c =
    let z = entered c.requires c.first_or-outer.ensures c.min.ensures c.last_need-a.ensures in
    said_on c.requires z.1 (filled (room_on c.requires z.1) c.loop-x.invariant.1 (omega arith))
