-- `has` meets its contract: the lowest digit of the set shifted down is the processor's bit.
use Prim.Native.Nat.{◌/◌, ◌^◌}
use lib.Bits.{and_mask}
use Rattle.laws.specs.Bits.{bit}
use Rattle.call_sheet.proofs.has.Goals as goal

pub returns : goal.returns
unfolding bit
returns c = rw (and_mask (c.args.set / 2 ^ c.args.q) 1)
