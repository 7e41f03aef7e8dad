-- The barriers passed and those left add up to the whole text.
use Prim.Native.Nat.{◌*◌, ◌-◌, ◌≤◌}
use Rattle.paper_texts.proofs.Written.{LengthInv}
use Rattle.paper_texts.proofs.text_length.Given as goal

abbrev pub invariant-loop-g : goal.invariant-loop-g
invariant-loop-g l = (l.n ≤ 5 * l.g) × LengthInv l.p.words l.n l.g

abbrev pub decreases-loop-g : goal.decreases-loop-g
decreases-loop-g l = 256 - l.g
