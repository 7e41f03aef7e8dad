-- `put_frame` meets its contract: each turn puts one byte's digits (`byte_on`), and the feed ends the line (`feed_on`).
use native.Mathlib.Omega.{arith}
use mathlib.Core.Path.{◌≡◌}
use lib.ListN.{length, length-set}
use Rattle.paper_lines.proofs.Writing.{text-length, byte_on, feed_on}
use Rattle.paper_lines.proofs.put_frame.Goals as goal

pub bounds-out-i : goal.bounds-out-i
bounds-out-i c = omega (arith, text-length c.args.frame.now)

pub bounds-out-i-in-loop-i : goal.bounds-out-i-in-loop-i
bounds-out-i-in-loop-i c = simp length-set (omega (arith, text-length c.args.frame.now))

pub loop-i-preserved : goal.loop-i-preserved
loop-i-preserved c =
    byte_on
    c.args.frame.now
    c.args.out.now
    c.loop-i.out
    c.loop-i.i
    c.requires
    c.loop-i.invariant
    c.digit.result
    c.digit-in-loop-i.result
    c.digit.ensures
    c.digit-in-loop-i.ensures
    c.loop-i-test.true

pub bounds-out-last : goal.bounds-out-last
bounds-out-last c = omega (arith, text-length c.args.frame.now)

pub returns-clause-value : goal.returns-clause-value
returns-clause-value c = omega (arith, text-length c.args.frame.now)

pub returns-clause-out_after : goal.returns-clause-out_after
returns-clause-out_after c =
    let e : c.loop-i.i ≡ length c.args.frame.now = omega arith in
    rw (← e) (feed_on c.args.frame.now c.args.out.now c.loop-i.out c.loop-i.i c.requires c.loop-i.invariant e)
