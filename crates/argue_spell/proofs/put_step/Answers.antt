-- The claim that leads, then the set.
use native.Mathlib.Omega.{arith}
use Rattle.argue_spell.proofs.Adding.{added_then}
use Rattle.argue_spell.proofs.put_step.Goals as goal

pub returns : goal.returns
returns c =
    record { added = added_then c.put_by-next.ensures.added c.put_set.ensures.added; upper_bound = omega (arith, c.put_by-next.ensures.upper_bound, c.put_set.ensures.upper_bound) }
