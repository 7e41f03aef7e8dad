-- Each turn reads one line: it keeps what was read so far, or is the text's refusal, or its end.
use Prim.Native.Nat.{◌-◌}
use lib.ListN.{length}
use Rattle.argue_texts.specs.Parts.{progress_in}
use Rattle.argue_texts.proofs.Walking.{Walk}
use Rattle.argue_texts.proofs.argument_fault.Given as goal

abbrev pub invariant-loop-f : goal.invariant-loop-f
invariant-loop-f l = Walk l.text (progress_in l.sofar) l.at l.line

abbrev pub decreases-loop-f : goal.decreases-loop-f
decreases-loop-f l = length l.text - l.at
