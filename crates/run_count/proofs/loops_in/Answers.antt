-- `loops_in` meets its contract: the DOs among all points are those before the end (`dos_counted`).
use mathlib.Core.Path.{◌≡◌, ◌∙◌}
use native.Mathlib.Omega.{arith}
use lib.ListN.{length}
use borrow.Author.Rules.{rules}
use Rattle.std.specs.Prelude.{◌==◌, count_by}
use Rattle.std.proofs.Math.Seq.{take-length}
use Rattle.paper_nests.specs.Kinds.{DO}
use Rattle.run_count.proofs.Fitting.{dos_counted}
use Rattle.run_count.proofs.loops_in.Goals as goal

pub returns : goal.returns
returns c =
    let points = c.args.points.now in
    let counted : c.count.result ≡ count_by (λ x. x == DO) points = search rules in
    counted ∙ rw take-length at (dos_counted points (length points) (omega arith))
