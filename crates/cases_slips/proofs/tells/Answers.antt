-- `tells` is safe: the written parts lie within the buffers, by the tests.
use native.Mathlib.Omega.{arith}
use lib.ListN.{length-take}
use Rattle.cases_slips.proofs.tells.Goals as goal

pub slice_bounds-same-end : goal.slice_bounds-same-end
slice_bounds-same-end c = simp length-take (omega arith)

pub slice_bounds-same-end-then-whole-eq0-2 : goal.slice_bounds-same-end-then-whole-eq0-2
slice_bounds-same-end-then-whole-eq0-2 c = simp length-take (omega arith)
