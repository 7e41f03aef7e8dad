-- Placement texts: barriers only, gaps rising; read with refusals 1, 2, 8 and 16, and written.
-- Main definitions: `read_placement`, `key_text`, `Reads-back`.
use Rattle.std.specs.Prelude.{◌≡◌, true, ◌&&◌, not, List, [], ◌∷◌, ◌++◌, ℕ, suc, eqb, ltb, leb, length, get_or}
use Rattle.laws.specs.Choice.{pick, when, first_of, is_in}
use Rattle.paper_nests.specs.Kinds.{POINTS}
use Rattle.paper_nests.specs.Nests.{Nest}
use Rattle.paper_lines.specs.Lines.{Line, lines_of, is_good, frame_of, line_text}
use Rattle.paper_placements.specs.Placements.{are_gaps, avoids}

-- 01, "Text": a barrier is 21 g
abbrev pub BARRIER : ℕ
BARRIER = 33

-- 2 and 8 for a frame, after a barrier at the gap `last`, of a nest with n points and the barred gaps bs; 02, job 7:
-- 16, a barred gap, after 8; 0 for none
abbrev pub barrier_fault : ℕ → ℕ → List ℕ → List ℕ → ℕ
barrier_fault last n bs f =
    first_of
    (when (not (eqb (get_or f 0 0) BARRIER && eqb (length f) 2)) 2)
    (first_of
    (when (not (ltb last (get_or f 1 0) && ltb (get_or f 1 0) n)) 8)
    (when (is_in (get_or f 1 0) bs) 16))

abbrev pub placed_fault : ℕ → ℕ → List ℕ → Line → ℕ
placed_fault last n bs l = first_of (when (not (is_good l)) 1) (barrier_fault last n bs (frame_of l.bytes))

pub record Placed : Type 0 where
  pub number : ℕ
  pub place : ℕ
  pub gaps : List ℕ

abbrev pub placed : ℕ → ℕ → List ℕ → Placed
placed n p g = record { number = n; place = p; gaps = g }

unfoldable pub place_lines : ℕ → ℕ → ℕ → List ℕ → List ℕ → List Line → Placed
place_lines k last n bs gs [] = placed 0 0 gs
place_lines k last n bs gs (l ∷ ls) =
    pick
    (eqb (placed_fault last n bs l) 0)
    (place_lines (suc k) (get_or (frame_of l.bytes) 1 0) n bs (gs ++ (get_or (frame_of l.bytes) 1 0 ∷ [])) ls)
    (placed (placed_fault last n bs l) k [])

-- 01, "Text": a placement text has barriers only, gaps rising, and may have no line
unfoldable pub read_placement : ℕ → List ℕ → List ℕ → Placed
read_placement n bs s = place_lines 1 0 n bs [] (lines_of s)

-- 01, "The desk": the key as text, a frame a line
unfoldable pub key_text : List ℕ → List ℕ
key_text [] = []
key_text (g ∷ gs) = line_text (BARRIER ∷ (g ∷ [])) ++ key_text gs

-- demand 2: a key written and read again is the same key
abbrev pub Reads-back : Type 0
Reads-back =
    (n : Nest) (gs : List ℕ) →
    are_gaps n gs ≡ true →
    avoids n.barred gs ≡ true →
    leb (length n.points) POINTS ≡ true →
    read_placement (length n.points) n.barred (key_text gs) ≡ placed 0 0 gs
