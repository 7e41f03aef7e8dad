-- `Placement::holds` meets its contract: the lowest digit of the word shifted down is the gap's bit.
use Prim.Native.Nat.{◌/◌, ◌%◌, ◌^◌}
use lib.Bits.{and_mask}
use lib.ListN.{get_or}
use Rattle.laws.specs.Bits.{bit}
use Rattle.paper_placements.specs.Words.{holds}
use Rattle.paper_placements.proofs.Placement.holds.Goals as goal

pub returns : goal.returns
unfolding holds bit
returns c =
    let ws = c.args.self.words in
    let g = c.args.g in
    rw (and_mask (get_or ws (g / 64) 0 / 2 ^ (g % 64)) 1)
