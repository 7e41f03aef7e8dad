use mathlib.Core.Path.{refl}
use native.Mathlib.Omega.{arith}
use Rattle.call_sheet.specs.Says.{sheet_in}
use Rattle.call_sheet.proofs.Sets.{sized_is}
use Rattle.call_sheet.proofs.Ending.{waited_start, waited_room, waited_on, waited_done}
use Rattle.call_sheet.proofs.end_waiting.Goals as goal

pub loop-k-init : goal.loop-k-init
loop-k-init c =
    let s = sheet_in c.args.sheet.now in
    waited_start s (sized_is s c.requires) _ c.start.new.times _ refl refl c.start.ensures.times c.start.ensures.short

pub pass-requires : goal.pass-requires
pass-requires c =
    let s = sheet_in c.args.sheet.now in
    waited_room s (sized_is s c.requires) c.loop-k.k c.loop-k.earlier c.loop-k.times c.loop-k.invariant (omega arith)

pub loop-k-preserved : goal.loop-k-preserved
loop-k-preserved c =
    let s = sheet_in c.args.sheet.now in
    waited_on s (sized_is s c.requires) c.loop-k.k c.loop-k.earlier c.loop-k.times c.loop-k.invariant (omega arith)
    c.pass.new.times c.pass.ensures.times c.pass.ensures.short

pub returns : goal.returns
returns c =
    let s = sheet_in c.args.sheet.now in
    waited_done s (sized_is s c.requires) c.loop-k.k c.loop-k.earlier c.loop-k.times c.loop-k.invariant
    c.latest_of.result (omega arith) c.latest_of.ensures
