use mathlib.Core.Path.{◌≡◌, ◌∙◌}
use Prim.Native.Nat.{◌+◌, ◌-◌}
use native.Mathlib.Omega.{arith}
use Rattle.std.proofs.Math.Nat.{sub-add-eq}
use Rattle.argue_laps.proofs.Lapping.{lap_begin, lap_on, lap_found, lap_done}
use Rattle.argue_laps.proofs.laps.Goals as goal

pub loop-init : goal.loop-init
loop-init c =
    let z : c.args.head.e + 2 - 0 ≡ c.args.head.e + 2 = omega arith in
    rw z (lap_begin c.requires.lap_room)

pub returns-then-head-s : goal.returns-then-head-s
returns-then-head-s c =
    let p = c.loop.invariant in
    record {
      laps_say = lap_found c.requires.lap_room p (omega arith) c.lap-s.ensures.lap_says c.if-head-s.true;
      need_unchanged =
          (c.lap-s.ensures.need_unchanged.0 ∙ p.need_is, c.lap-s.ensures.need_unchanged.1 ∙ p.sets_is);
    }

pub loop-preserved : goal.loop-preserved
loop-preserved c =
    rw sub-add-eq
    (lap_on c.requires.lap_room c.loop.invariant (omega arith) c.lap-s.ensures.lap_says
    c.lap-s.ensures.need_unchanged.0 c.lap-s.ensures.need_unchanged.1 c.lap-s.auto.out c.if-head-s.false)

pub returns : goal.returns
returns c =
    let p = c.loop.invariant in
    record { laps_say = lap_done c.requires.lap_room p (omega arith); need_unchanged = (p.need_is, p.sets_is) }
