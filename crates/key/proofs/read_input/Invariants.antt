-- `read_input` meets its contract: the reads make a run (`Reading`). The measure is what is left of the buffer and of
-- the interrupts.
use Prim.Native.Nat.{◌+◌, ◌-◌}
use lib.ListN.{length}
use Rattle.key.specs.Inputs.{INTERRUPTS}
use Rattle.key.proofs.Reading.{Reading}
use Rattle.key.proofs.read_input.Given as goal

abbrev pub invariant-loop-reads : goal.invariant-loop-reads
invariant-loop-reads l = Reading l.initial.input l.reads l.input

abbrev pub decreases-loop-reads : goal.decreases-loop-reads
decreases-loop-reads l = (length l.input - l.reads.bytes) + (INTERRUPTS - l.reads.interrupts)
