-- `case_7` is safe: its parts lie within the buffers.
use native.Mathlib.Omega.{arith}
use lib.ListN.{length-take}
use Rattle.cases_slips.proofs.case_7.Goals as goal

pub slice_bounds-same-end-then-more-eq28 : goal.slice_bounds-same-end-then-more-eq28
slice_bounds-same-end-then-more-eq28 c = simp length-take (omega arith)
