-- Nest texts: read line by line with refusals 1 to 8 and 14, and spelled, a frame a line.
-- Main definitions: `read_nest`, `blank`, `Spells`, `Means`, `nest_text`.
use Rattle.std.specs.Prelude.{◌≡◌, true, not, ◌⊎◌, List, [], ◌∷◌, ◌++◌, ℕ, suc, eqb}
use Rattle.laws.specs.Choice.{pick, when, first_of}
use Rattle.paper_nests.specs.Kinds.{DO, ENDDO}
use Rattle.paper_nests.specs.Nests.{Dep, Nest, nest, empty}
use Rattle.paper_nests.specs.Loops.{is_closed}
use Rattle.paper_nests.specs.Valid.{is_valid}
use Rattle.paper_lines.specs.Lines.{Line, lines_of, is_good, frame_of}
use Rattle.paper_texts.specs.Pieces.{Piece, Point, Depend, Bar, Flagged, piece_of, told_fault, with_told, pieces_text}
use Rattle.paper_texts.specs.Pieces.{is_ordered, made_of}

-- 2 to 8 and 14 for a frame; 0 for none
abbrev pub frame_fault : Nest → List ℕ → ℕ
frame_fault n f = told_fault n (piece_of f)

-- the nest with one frame more
abbrev pub with_frame : Nest → List ℕ → Nest
with_frame n f = with_told n (piece_of f)

-- 1 to 8 and 14 for a line; 0 for none
abbrev pub line_fault : Nest → Line → ℕ
line_fault n l = first_of (when (not (is_good l)) 1) (frame_fault n (frame_of l.bytes))

-- what reading gives: number and line of the first fault, 0 and 0 for none, and the nest
pub record Got : Type 0 where
  pub number : ℕ
  pub place : ℕ
  pub nest_is : Nest

abbrev pub got : ℕ → ℕ → Nest → Got
got n p x = record { number = n; place = p; nest_is = x }

-- 01, "Numbers from the input": the first faulty line decides, and on it the lowest number; the end of text counts as
-- the line after the last
unfoldable pub read_lines : ℕ → Nest → List Line → Got
read_lines k n [] = pick (is_closed n.points) (got 0 0 n) (got 4 k empty)
read_lines k n (l ∷ ls) =
    pick
    (eqb (line_fault n l) 0)
    (read_lines (suc k) (with_frame n (frame_of l.bytes)) ls)
    (got (line_fault n l) k empty)

-- the blank paper: a loop with nothing in it, and no dependence
abbrev pub blank : Nest
blank = nest (DO ∷ ENDDO ∷ []) []

-- 02, job 3: an empty text, of no byte at all, means the blank paper; every other text is read line by line
unfoldable pub read_nest : List ℕ → Got
read_nest [] = got 0 0 blank
read_nest (b ∷ s) = read_lines 1 empty (lines_of (b ∷ s))

-- a text and the nest that it spells: the text is that of ordered pieces, and they make the nest, which is valid
pub record Spells (s : List ℕ) (n : Nest) : Type 0 where
  pub pieces : List Piece
  pub ordered : is_ordered pieces ≡ true
  pub text : s ≡ pieces_text pieces
  pub nest_is : n ≡ made_of pieces
  pub valid : is_valid n ≡ true

-- the nest that a text means: of an empty one the blank paper, of every other one the nest that it spells
abbrev pub Means : List ℕ → Nest → Type 0
Means s n = ((s ≡ []) × (n ≡ blank)) ⊎ Spells s n

-- 01, "Text": a spelling of a nest, all points, then all dependences, then all barred gaps; 02, job 10: of the points,
-- the first of which is point i, the flagged ones as such
unfoldable pub point_pieces : ℕ → List ℕ → List ℕ → List Piece
point_pieces i [] fs = []
point_pieces i (p ∷ ps) [] = Point p ∷ point_pieces (suc i) ps []
point_pieces i (p ∷ ps) (f ∷ fs) =
    pick (eqb i f) (Flagged ∷ point_pieces (suc i) ps fs) (Point p ∷ point_pieces (suc i) ps (f ∷ fs))

unfoldable pub dep_pieces : List Dep → List Piece
dep_pieces [] = []
dep_pieces (e ∷ es) = Depend e ∷ dep_pieces es

unfoldable pub bar_pieces : List ℕ → List Piece
bar_pieces [] = []
bar_pieces (g ∷ gs) = Bar g ∷ bar_pieces gs

abbrev pub pieces_of : Nest → List Piece
pieces_of n = point_pieces 0 n.points n.flagged ++ (dep_pieces n.deps ++ bar_pieces n.barred)

unfoldable pub nest_text : Nest → List ℕ
nest_text n = pieces_text (pieces_of n)
