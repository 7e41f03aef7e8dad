-- What is written over the buffer and what is left give the whole text.
use Prim.Native.Nat.{◌-◌}
use Rattle.paper_texts.proofs.Written.{WriteInv}
use Rattle.paper_texts.proofs.write_text.Given as goal

abbrev pub invariant-loop-g : goal.invariant-loop-g
invariant-loop-g l = WriteInv l.p.words l.initial.out l.out l.at l.g

abbrev pub decreases-loop-g : goal.decreases-loop-g
decreases-loop-g l = 256 - l.g
