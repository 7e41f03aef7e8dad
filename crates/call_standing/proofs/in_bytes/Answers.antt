use mathlib.Core.Path.{refl}
use native.Mathlib.Omega.{arith}
use Rattle.call_standing.proofs.Writing.{write_none, write_next}
use Rattle.call_standing.proofs.in_bytes.Goals as goal

pub loop-i-init : goal.loop-i-init
loop-i-init c = write_none _ _ refl

pub overflow_cast-bytes : goal.overflow_cast-bytes
overflow_cast-bytes c = record { fits = c.requires c.loop-i.i (omega arith) }

pub loop-i-preserved : goal.loop-i-preserved
loop-i-preserved c = write_next c.loop-i.invariant (omega arith)

pub returns : goal.returns
returns c = λ i l. c.loop-i.invariant.same i (omega arith)
