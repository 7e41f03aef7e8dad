-- Pieces of a nest text written one by one into a lent buffer: points, and dependences that are moved along.
-- Main definition: `Piecing`, what a turn keeps. Main statements: `piece_length`, `piece_room`, `piece_on`,
-- `piece_done`; `flagged_next`, `plain_next`, `dep_next`; of a dependence `line_length`, `ring_length`.
use mathlib.Core.Path.{◌≡◌, refl, ap}
use mathlib.Core.Bool.{true, false}
use mathlib.Core.List.{List, [], ◌∷◌, ◌++◌}
use mathlib.Core.Logic.{inl, inr}
use Prim.Native.Nat.{ℕ, zero, suc, ◌+◌, ◌-◌, ◌≤◌, ◌<◌}
use native.Mathlib.Numerals.{add-one}
use native.Mathlib.Omega.{arith}
use lib.Dec.{eqb}
use lib.ListN.{length, get_or, drop, length-append, drop_of_length-le}
use lib.Seq.{drop-cons}
use borrow.Author.Tests.{ne_eqb}
use borrow.Rule.Slice.PartMut.{mid_of, put_mid}
use Rattle.laws.specs.Members.{Among}
use Rattle.laws.proofs.Tests.{never, lt_by}
use Rattle.paper_nests.specs.Kinds.{INDEPENDENT, CARRIED}
use Rattle.paper_nests.specs.Nests.{Dep}
use Rattle.paper_lines.specs.Lines.{line_text}
use Rattle.paper_lines.specs.Writing.{over}
use Rattle.paper_lines.proofs.Parts.{Partly, part_room, part_length, part_on, part_left, part_done}
use Rattle.paper_lines.proofs.Writing.{text-length}
use Rattle.paper_texts.specs.Pieces.{Piece, Point, Depend, Flagged, piece_frame, dep_frame, pieces_text}
use Rattle.paper_texts.specs.NestTexts.{point_pieces, dep_pieces}
use Rattle.call_join.specs.JointNests.{moved_dep, moved_deps}
use Rattle.call_join.specs.Written.{is_next}

-- of the pieces xs all but those that are left are written
pub record Piecing (xs left : List Piece) (o out : List ℕ) (at : ℕ) : Type 0 where
  pub part : Partly (pieces_text xs) (pieces_text left) o out at

module _
    {xs left : List Piece} {o out : List ℕ} {at : ℕ} (p : Piecing xs left o out at)
    (fits : length (pieces_text xs) ≤ length o)
  where
    -- the buffer keeps its length, and the place lies in it
    pub piece_length : length out ≡ length o
    piece_length = part_length (pieces_text xs) (pieces_text left) o out at p.part fits

    pub piece_within : at ≤ length o
    piece_within = omega (arith, part_room (pieces_text xs) (pieces_text left) o out at p.part fits)

    module _ {x : Piece} {rest : List Piece} (next : left ≡ x ∷ rest) where
      more : pieces_text left ≡ line_text (piece_frame x) ++ pieces_text rest
      unfolding pieces_text
      more = ap pieces_text next

      -- there is room for the next one
      pub piece_room : at + length (line_text (piece_frame x)) ≤ length o
      piece_room =
          omega (
            arith,
            part_room (pieces_text xs) (pieces_text left) o out at p.part fits,
            ap length more,
            length-append (line_text (piece_frame x)) (pieces_text rest),
          )

      pub piece_on
          : {r : ℕ} {q : List ℕ}
          → r ≡ length (line_text (piece_frame x))
          → q ≡ over (line_text (piece_frame x)) (mid_of at (length out - at) out)
          → Piecing xs rest o (put_mid at (length out - at) out q) (at + r)
      piece_on {r} {q} e w =
          record {
            part =
                part_on (pieces_text xs) (pieces_text left) o out at p.part (line_text (piece_frame x))
                (pieces_text rest) q r fits more e w;
          }

    pub piece_done : left ≡ [] → (at ≡ length (pieces_text xs)) × (out ≡ over (pieces_text xs) o)
    unfolding pieces_text
    piece_done none =
        part_done (pieces_text xs) o out at
        (part_left (pieces_text xs) (pieces_text left) o out at p.part [] (ap pieces_text none))

-- ---- points

-- the next point is flagged, or it is not
flagged_step
    : (i p : ℕ) (ps : List ℕ) (f : ℕ) (fs : List ℕ)
    → eqb i f ≡ true
    → point_pieces i (p ∷ ps) (f ∷ fs) ≡ Flagged ∷ point_pieces (suc i) ps fs
unfolding point_pieces
flagged_step i p ps f fs h = rw h

plain_step
    : (i p : ℕ) (ps fs : List ℕ)
    → is_next i fs ≡ false
    → point_pieces i (p ∷ ps) fs ≡ Point p ∷ point_pieces (suc i) ps fs
unfolding point_pieces
plain_step i p ps [] h = refl
plain_step i p ps (f ∷ fs) h = rw h

pub next_there : (i f : ℕ) (fs : List ℕ) → is_next i (drop f fs) ≡ true → f < length fs
next_there i f fs h =
    lt_by
    (λ (z : length fs ≤ f).
    let none : drop f fs ≡ [] = drop_of_length-le fs {i = f} z in
    never (rw none at h))

-- at point i, with the flags from f on
module _ (ps fs : List ℕ) (f i : ℕ) (l : i < length ps) where
  pub flagged_next
      : is_next i (drop f fs) ≡ true
      → point_pieces i (drop i ps) (drop f fs) ≡ Flagged ∷ point_pieces (i + 1) (drop (i + 1) ps) (drop (f + 1) fs)
  flagged_next h =
      let there = drop-cons fs f 0 (next_there i f fs h) in
      let here : eqb i (get_or fs f 0) ≡ true = rw there at h in
      rw (drop-cons ps i 0 l, there, add-one i, add-one f)
      (flagged_step i (get_or ps i 0) (drop (suc i) ps) (get_or fs f 0) (drop (suc f) fs) here)

  pub plain_next
      : is_next i (drop f fs) ≡ false
      → point_pieces i (drop i ps) (drop f fs)
      ≡ Point (get_or ps i 0) ∷ point_pieces (i + 1) (drop (i + 1) ps) (drop f fs)
  plain_next h =
      rw (drop-cons ps i 0 l, add-one i) (plain_step i (get_or ps i 0) (drop (suc i) ps) (drop f fs) h)

pub points_out : (ps fs : List ℕ) (i : ℕ) → length ps ≤ i → point_pieces i (drop i ps) fs ≡ []
unfolding point_pieces
points_out ps fs i l = rw (drop_of_length-le ps {i = i} l)

-- ---- dependences, moved along

pub dep_next
    : (k : ℕ) (es : List Dep) (i : ℕ) {e : Dep}
    → drop i es ≡ e ∷ drop (suc i) es
    → dep_pieces (moved_deps k (drop i es)) ≡ Depend (moved_dep k e) ∷ dep_pieces (moved_deps k (drop (i + 1) es))
unfolding dep_pieces
dep_next k es i next = rw (next, add-one i)

pub deps-out : (k : ℕ) (es : List Dep) (i : ℕ) → length es ≤ i → dep_pieces (moved_deps k (drop i es)) ≡ []
unfolding dep_pieces
deps-out k es i l = rw (drop_of_length-le es {i = i} l)

-- the dependence at i is one of them
pub among_next : (es : List Dep) (i : ℕ) {e : Dep} → drop i es ≡ e ∷ drop (suc i) es → Among e es
among_next [] zero next = let z : ◌≡◌ {A = ℕ} 0 1 = cc in absurd (omega arith)
among_next [] (suc i) next = let z : ◌≡◌ {A = ℕ} 0 1 = cc in absurd (omega arith)
among_next (x ∷ es) zero next = inl (cc)
among_next (x ∷ es) (suc i) next = inr (among_next es i next)

-- an independent dependence: its frame, its line
module _ (e : Dep) (kind : e.kind ≡ INDEPENDENT) where
  pub line_frame : INDEPENDENT ∷ (e.s ∷ (e.t ∷ [])) ≡ dep_frame e
  line_frame = rw kind

  pub line_length : length (line_text (dep_frame e)) ≡ 7
  line_length = rw (← line_frame) (text-length (INDEPENDENT ∷ (e.s ∷ (e.t ∷ []))))

-- the same of a carried one
module _ (e : Dep) (kind : e.kind ≡ INDEPENDENT → ⊥) where
  pub ring_frame : CARRIED ∷ (e.d ∷ (e.s ∷ (e.t ∷ []))) ≡ dep_frame e
  ring_frame = rw (ne_eqb e.kind INDEPENDENT kind)

  pub ring_length : length (line_text (dep_frame e)) ≡ 9
  ring_length = rw (← ring_frame) (text-length (CARRIED ∷ (e.d ∷ (e.s ∷ (e.t ∷ [])))))
