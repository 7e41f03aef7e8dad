-- What the readers of whole texts promise, and what their steps promise of the nest so far.
-- Main definitions: `got_in`, `IsRead`, `placed_in`, `IsPlaced`, `HasNumbers`, `KnowsEnds`, `KnowsOne`, `told_in`, `IsPiece`, `PointFault`,
-- `DependenceFault`, `BarredFault`.
use Rattle.std.specs.Prelude.{◌≡◌, Bool, ◌&&◌, ◌||◌, not, List, [], ℕ, eqb, leb, length, Result, Ok, Err, IfOk}
use Rattle.paper_nests.specs.Kinds.{DO, POINTS, DEPTH}
use Rattle.laws.specs.Choice.{pick}
use Rattle.paper_nests.specs.Nests.{Nest, empty}
use Rattle.paper_nests.specs.Loops.{depth, HasEnds}
use Rattle.paper_nests.specs.Ring.{one_loop}
use Rattle.paper_nests.specs.Stored.{dep_in, nest_in, IsCounted}
use Rattle.paper_nests.specs.declared.Dependence.{Dependence}
use Rattle.paper_nests.specs.declared.Nest as DN
use Rattle.paper_lines.specs.declared.Frame.{Frame}
use Rattle.paper_lines.specs.Reading.{IsFrame}
use Rattle.paper_placements.specs.Words.{gaps_in}
use Rattle.paper_placements.specs.declared.Placement.{Placement}
use Rattle.paper_refusals.specs.declared.Fault.{Fault}
use Rattle.paper_refusals.specs.Numbers.{number_of}
use Rattle.paper_texts.specs.declared.Piece as DP
use Rattle.paper_texts.specs.declared.Piece.TheVariants as PV
use Rattle.paper_texts.specs.Pieces.{Point, Depend, Bar, Flagged, Told, told, unknown, piece_of}
use Rattle.paper_texts.specs.Pieces.{point_fault, dependence_fault, barred_fault}
use Rattle.paper_texts.specs.NestTexts.{Got, got, read_nest}
use Rattle.paper_texts.specs.PlacementTexts.{barrier_fault, Placed, placed, read_placement}

-- what a reading of a nest text gave: its number and line, and the nest, which is empty where the text is refused
abbrev pub got_in : Result DN.Nest Fault → Got
got_in (Ok n) = got 0 0 (nest_in n)
got_in (Err f) = got (number_of f.refusal) f.line empty

pub record IsRead (s : List ℕ) (r : Result DN.Nest Fault) : Type 0 where
  pub got_is : got_in r ≡ read_nest s
  pub counted : IfOk r IsCounted

-- 4: all points are there; a point has no place; 5: a point is one too many
abbrev pub closed_by : ℕ → ℕ → Bool
closed_by count deep = leb 1 count && eqb deep 0

abbrev pub misplaced_by : ℕ → ℕ → ℕ → Bool
misplaced_by count deep kind = closed_by count deep || (eqb count 0 && not (eqb kind DO))

abbrev pub too_many_by : ℕ → ℕ → ℕ → Bool
too_many_by count deep kind = leb POINTS count || (eqb kind DO && leb DEPTH deep)

-- the reading at the end of a text
pub record EndedAs (n : DN.Nest) (deep line : ℕ) (r : Result DN.Nest Fault) : Type 0 where
  pub got_is : got_in r ≡ pick (closed_by n.count deep) (got 0 0 (nest_in n)) (got 4 line empty)
  pub counted : IfOk r IsCounted

-- the numbers that the reader keeps of the nest so far: points, dependences, barred gaps, depth
pub record HasNumbers (n : Nest) (count many bars deep : ℕ) : Type 0 where
  pub count_is : length n.points ≡ count
  pub many_is : length n.deps ≡ many
  pub bars_is : length n.barred ≡ bars
  pub depth_is : depth n.points ≡ deep

-- the table that the reader keeps: once all points are there, it has the ENDDO of every DO
pub record KnowsEnds (ps : List ℕ) (deep : ℕ) (ends : List ℕ) : Type 0 where
  pub long : length ends ≡ POINTS
  pub has_ends : deep ≡ 0 → HasEnds ps ends

-- and whether they are one loop
abbrev pub KnowsOne : List ℕ → ℕ → Bool → Type 0
KnowsOne ps deep single = deep ≡ 0 → single ≡ one_loop ps

-- the piece of the code as what the frame tells
abbrev pub told_in : DP.Piece → Told
told_in (PV.Point k) = told (Point k)
told_in (PV.Dependence e) = told (Depend (dep_in e))
told_in (PV.Barred g) = told (Bar g)
told_in PV.Flagged = told Flagged
told_in PV.Unknown = unknown

-- x is what the frame tells
abbrev pub IsPiece : Frame → DP.Piece → Type 0
IsPiece f x = (l : List ℕ) → IsFrame f l → told_in x ≡ piece_of l

-- r is the refusal of a point, a dependence, a barred gap, in each nest with these numbers
abbrev pub PointFault : ℕ → ℕ → ℕ → ℕ → ℕ → ℕ → Type 0
PointFault count many bars deep kind r = (n : Nest) → HasNumbers n count many bars deep → r ≡ point_fault n kind

abbrev pub DependenceFault : List ℕ → ℕ → ℕ → Dependence → ℕ → Type 0
DependenceFault ps many deep e r =
    (n : Nest) (bars : ℕ) →
    n.points ≡ ps → HasNumbers n (length ps) many bars deep → r ≡ dependence_fault n (dep_in e)

abbrev pub BarredFault : List ℕ → ℕ → ℕ → ℕ → ℕ → Type 0
BarredFault ps bars deep g r =
    (n : Nest) (many : ℕ) → n.points ≡ ps → HasNumbers n (length ps) many bars deep → r ≡ barred_fault n g

-- what a reading of a placement text gave: its number and line, and the gaps, of which there is none where the text is
-- refused
abbrev pub placed_in : Result Placement Fault → Placed
placed_in (Ok p) = placed 0 0 (gaps_in p.words)
placed_in (Err f) = placed (number_of f.refusal) f.line []

pub record IsPlaced (n : ℕ) (bs s : List ℕ) (r : Result Placement Fault) : Type 0 where
  pub placed_is : placed_in r ≡ read_placement n bs s

-- r is the refusal of a barrier after the gap `last`, of a nest with n points and the barred gaps bs
abbrev pub BarrierFault : ℕ → ℕ → List ℕ → Frame → ℕ → Type 0
BarrierFault last n bs f r = (l : List ℕ) → IsFrame f l → r ≡ barrier_fault last n bs l
