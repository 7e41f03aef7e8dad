-- `put_points` meets its contract: the lines of the points before i are written, and those from i on are left, with the
-- flags from f on (`Piecing`).
use mathlib.Core.List.{List}
use Prim.Native.Nat.{ℕ}
use lib.ListN.{drop}
use Rattle.paper_nests.specs.Nests.{Nest}
use Rattle.paper_nests.specs.Stored.{nest_in}
use Rattle.paper_texts.specs.Pieces.{Piece}
use Rattle.paper_texts.specs.NestTexts.{point_pieces}
use Rattle.call_join.proofs.PiecesWritten.{Piecing}
use Rattle.call_join.proofs.put_points.Given as goal

-- the pieces from point i on, with the flags from f on
abbrev left_of : Nest → ℕ → ℕ → List Piece
left_of n f i = point_pieces i (drop i n.points) (drop f n.flagged)

abbrev pub invariant-loop-i : goal.invariant-loop-i
invariant-loop-i l =
    let n = nest_in l.fn.nest in
    Piecing (point_pieces 0 n.points n.flagged) (left_of n l.f l.i) l.initial.out l.out l.at
