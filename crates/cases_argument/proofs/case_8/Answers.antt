-- `case_8` is safe: its parts lie within the buffers.
use native.Mathlib.Omega.{arith}
use lib.ListN.{length-take}
use Rattle.cases_argument.proofs.case_8.Goals as goal

pub slice_bounds-same-end-then-more-eq30 : goal.slice_bounds-same-end-then-more-eq30
slice_bounds-same-end-then-more-eq30 c = simp length-take (omega arith)
