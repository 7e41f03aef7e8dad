-- After i bytes the buffer holds their digits over what it held.
use mathlib.Core.Path.{◌≡◌}
use lib.ListN.{take}
use Rattle.paper_lines.specs.Lines.{digits_of}
use Rattle.paper_lines.specs.Writing.{over}
use Rattle.paper_lines.proofs.put_frame.Given as goal

abbrev pub invariant-loop-i : goal.invariant-loop-i
invariant-loop-i l = l.out ≡ over (digits_of (take l.i l.frame)) l.initial.out
