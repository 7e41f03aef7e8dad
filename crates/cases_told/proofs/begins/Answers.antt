-- `begins` is safe: the part of the table lies within it, by the test.
use native.Mathlib.Omega.{arith}
use lib.ListN.{length-take}
use Rattle.cases_told.proofs.begins.Goals as goal

pub slice_bounds-same-end : goal.slice_bounds-same-end
slice_bounds-same-end c = simp length-take (omega arith)
