-- `put_deps` meets its contract: the lines of the dependences passed are written, moved along, and those from there on
-- are left (`Piecing`).
use lib.ListN.{drop}
use Rattle.paper_nests.specs.Stored.{nest_in}
use Rattle.paper_texts.specs.NestTexts.{dep_pieces}
use Rattle.call_join.specs.JointNests.{moved_deps}
use Rattle.call_join.proofs.PiecesWritten.{Piecing}
use Rattle.call_join.proofs.put_deps.Given as goal

abbrev pub invariant-loop-e : goal.invariant-loop-e
invariant-loop-e l =
    let es = (nest_in l.fn.nest).deps in
    let left = moved_deps l.by (drop l.e-index es) in
    Piecing (dep_pieces (moved_deps l.by es)) (dep_pieces left) l.initial.out l.out l.at
