-- The pieces of a nest text, one a frame: what a frame tells, its refusal, what it adds to a nest, and its frame again.
-- A new kind of frames is one clause in each definition here.
-- Main definitions: `Piece`, `piece_of`, `piece_fault`, `with_piece`, `piece_frame`; of lists `pieces_text`, `is_ordered`,
-- `made_of`.
use Rattle.std.specs.Prelude.{Bool, true, false, ◌&&◌, ◌||◌, not, List, [], ◌∷◌, ◌++◌, ℕ, eqb, leb, length, get_or}
use Rattle.laws.specs.Choice.{pick, when, first_of, between}
use Rattle.paper_nests.specs.Kinds.{DO, STATEMENT, FLAGGED, INDEPENDENT, CARRIED, BARRED, POINTS, DEPTH, DEPENDENCES, BARS}
use Rattle.paper_nests.specs.Nests.{Dep, dep, Nest, empty, with_point, with_dep, with_bar, with_flagged}
use Rattle.paper_nests.specs.Loops.{depth, is_closed}
use Rattle.paper_nests.specs.Valid.{dep_fault, bar_fault}
use Rattle.paper_lines.specs.Lines.{line_text}

pub data Piece : Type 0 where
  Point : ℕ → Piece
  Depend : Dep → Piece
  Bar : ℕ → Piece
  Flagged : Piece

-- what a frame tells: a piece, or nothing that is known
pub data Told : Type 0 where
  told : Piece → Told
  unknown : Told

abbrev pub is_point : ℕ → Bool
is_point k = between DO k STATEMENT

-- 01, "Text": a point is one byte alone, an independent dependence 11 s t, a carried one 12 d s t; 02, job 7: a barred
-- gap is 13 g; 02, job 10: a flagged DO is 04; by the kind byte k, the length and the bytes after the kind
abbrev pub piece_by : ℕ → ℕ → ℕ → ℕ → ℕ → Told
piece_by k long a b c =
    pick
    (is_point k && eqb long 1)
    (told (Point k))
    (pick
    (eqb k INDEPENDENT && eqb long 3)
    (told (Depend (dep INDEPENDENT 0 a b)))
    (pick
    (eqb k CARRIED && eqb long 4)
    (told (Depend (dep CARRIED a b c)))
    (pick
    (eqb k BARRED && eqb long 2)
    (told (Bar a))
    (pick (eqb k FLAGGED && eqb long 1) (told Flagged) unknown))))

abbrev pub piece_of : List ℕ → Told
piece_of f = piece_by (get_or f 0 0) (length f) (get_or f 1 0) (get_or f 2 0) (get_or f 3 0)

-- a piece as a frame
abbrev pub dep_frame : Dep → List ℕ
dep_frame e =
    pick
    (eqb e.kind INDEPENDENT)
    (INDEPENDENT ∷ (e.s ∷ (e.t ∷ [])))
    (CARRIED ∷ (e.d ∷ (e.s ∷ (e.t ∷ []))))

abbrev pub piece_frame : Piece → List ℕ
piece_frame (Point k) = k ∷ []
piece_frame (Depend e) = dep_frame e
piece_frame (Bar g) = BARRED ∷ (g ∷ [])
piece_frame Flagged = FLAGGED ∷ []

-- points stand first
abbrev pub is_first : Piece → Bool
is_first (Point k) = true
is_first (Depend e) = false
is_first (Bar g) = false
is_first Flagged = true

-- the nest has more than points
abbrev pub is_past : Nest → Bool
is_past n = leb 1 (length n.deps) || leb 1 (length n.barred)

-- 01, "Numbers from the input": 3, 4 and 5 for a point
abbrev pub point_fault : Nest → ℕ → ℕ
point_fault n k =
    first_of
    (when (is_past n) 3)
    (first_of
    (when (is_closed n.points || (eqb (length n.points) 0 && not (eqb k DO))) 4)
    (when (leb POINTS (length n.points) || (eqb k DO && leb DEPTH (depth n.points))) 5))

-- 4, 5, 6 and 7 for a dependence
abbrev pub dependence_fault : Nest → Dep → ℕ
dependence_fault n e =
    first_of
    (when (not (is_closed n.points)) 4)
    (first_of (when (leb DEPENDENCES (length n.deps)) 5) (dep_fault n.points e))

-- 02, job 7: 4, 5, 8 and 14 for a barred gap
abbrev pub barred_fault : Nest → ℕ → ℕ
barred_fault n g =
    first_of
    (when (not (is_closed n.points)) 4)
    (first_of (when (leb BARS (length n.barred)) 5) (bar_fault n.points g))

-- 3 to 8 and 14 for a piece, and 2 for what is not known; 0 for none
abbrev pub piece_fault : Nest → Piece → ℕ
piece_fault n (Point k) = point_fault n k
piece_fault n (Depend e) = dependence_fault n e
piece_fault n (Bar g) = barred_fault n g
piece_fault n Flagged = point_fault n DO

abbrev pub told_fault : Nest → Told → ℕ
told_fault n (told x) = piece_fault n x
told_fault n unknown = 2

-- the nest with one piece more
abbrev pub with_piece : Nest → Piece → Nest
with_piece n (Point k) = with_point n k
with_piece n (Depend e) = with_dep n e
with_piece n (Bar g) = with_bar n g
with_piece n Flagged = with_flagged n

abbrev pub with_told : Nest → Told → Nest
with_told n (told x) = with_piece n x
with_told n unknown = n

-- pieces as text, a frame a line
unfoldable pub pieces_text : List Piece → List ℕ
pieces_text [] = []
pieces_text (x ∷ xs) = line_text (piece_frame x) ++ pieces_text xs

-- 01, "Text": all points, then all dependences; 02, job 7: with barred gaps among these
abbrev pub no_first : List Piece → Bool
no_first [] = true
no_first (x ∷ xs) = not (is_first x) && no_first xs

abbrev pub is_ordered : List Piece → Bool
is_ordered [] = true
is_ordered (x ∷ xs) = (is_first x || no_first xs) && is_ordered xs

-- the nest that pieces make
abbrev pub made_from : Nest → List Piece → Nest
made_from n [] = n
made_from n (x ∷ xs) = made_from (with_piece n x) xs

abbrev pub made_of : List Piece → Nest
made_of xs = made_from empty xs
