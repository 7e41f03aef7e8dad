-- `fits` is safe: the texts lie within their buffers, up to where the lines were put, and the joint text by the test.
use native.Mathlib.Omega.{arith}
use lib.ListN.{length-take}
use Rattle.cases_join.proofs.fits.Goals as goal

pub slice_bounds-is_refused-end : goal.slice_bounds-is_refused-end
slice_bounds-is_refused-end c = simp length-take (omega arith)
