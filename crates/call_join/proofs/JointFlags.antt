-- Flagged loops of a joint nest: the flags of both papers, moved along, are DOs of it, and its points are spelled as in
-- the two papers, inside the new loop's DO and ENDDO.
-- Main statements: `joint_flags`, `joint_pieces`.
use mathlib.Core.Path.{◌≡◌, refl, sym, ap, ◌∙◌}
use mathlib.Core.Bool.{true}
use mathlib.Core.List.{List, [], ◌∷◌, ◌++◌, append-nil}
use Prim.Native.Nat.{ℕ, suc, ◌+◌}
use native.Mathlib.Omega.{arith}
use lib.ListN.{length}
use Rattle.paper_nests.specs.Kinds.{DO, ENDDO}
use Rattle.paper_nests.specs.Valid.{are_flags}
use Rattle.paper_nests.proofs.Flags.{flags_Joined, flags_more}
use Rattle.paper_texts.specs.Pieces.{Piece, Point}
use Rattle.paper_texts.specs.NestTexts.{point_pieces}
use Rattle.paper_texts.proofs.OneSpelling.{points_joined}
use Rattle.call_join.specs.JointNests.{moved_gaps, joined_points}
use Rattle.call_join.proofs.MovedGaps.{eqb_moved}

-- the points and their flags k points on
flags_moved : (k i : ℕ) (ps fs : List ℕ) → are_flags (k + i) ps (moved_gaps k fs) ≡ are_flags i ps fs
flags_moved k i ps [] = refl
flags_moved k i [] (f ∷ fs) = refl
flags_moved k i (p ∷ ps) (f ∷ fs) =
    let z : suc (k + i) ≡ k + suc i = omega arith in
    rw (eqb_moved k i f, z, flags_moved k (suc i) ps fs, flags_moved k (suc i) ps (f ∷ fs))

pieces_moved : (k i : ℕ) (ps fs : List ℕ) → point_pieces (k + i) ps (moved_gaps k fs) ≡ point_pieces i ps fs
unfolding point_pieces
pieces_moved k i [] fs = refl
pieces_moved k i (p ∷ ps) [] =
    let z : suc (k + i) ≡ k + suc i = omega arith in
    rw (z, pieces_moved k (suc i) ps [])
pieces_moved k i (p ∷ ps) (f ∷ fs) =
    let z : suc (k + i) ≡ k + suc i = omega arith in
    rw (eqb_moved k i f, z, pieces_moved k (suc i) ps fs, pieces_moved k (suc i) ps (f ∷ fs))

-- the same from the first point on
flags_at : (k : ℕ) (ps fs : List ℕ) → are_flags k ps (moved_gaps k fs) ≡ are_flags 0 ps fs
flags_at k ps fs = let z : k + 0 ≡ k = omega arith in rw z at (flags_moved k 0 ps fs)

pieces_at : (k : ℕ) (ps fs : List ℕ) → point_pieces k ps (moved_gaps k fs) ≡ point_pieces 0 ps fs
pieces_at k ps fs = let z : k + 0 ≡ k = omega arith in rw z at (pieces_moved k 0 ps fs)

module _
    (ps qs fs gs : List ℕ) (one : are_flags 0 ps fs ≡ true) (two : are_flags 0 qs gs ≡ true)
  where
    -- where the second nest begins; what stands behind the first
    abbrev second : ℕ
    second = suc (length ps)

    abbrev behind : List ℕ
    behind = qs ++ (ENDDO ∷ [])

    first_flags : are_flags 1 ps (moved_gaps 1 fs) ≡ true
    first_flags = flags_at 1 ps fs ∙ one

    second_flags : are_flags (suc (length ps)) (qs ++ (ENDDO ∷ [])) (moved_gaps (suc (length ps)) gs) ≡ true
    second_flags = flags_at second behind gs ∙ flags_more qs ENDDO gs two

    inside_flags
        : are_flags 1 (ps ++ (qs ++ (ENDDO ∷ []))) (moved_gaps 1 fs ++ moved_gaps (suc (length ps)) gs) ≡ true
    inside_flags =
        flags_Joined 1 second ps behind (moved_gaps 1 fs) (moved_gaps second gs) (omega arith) first_flags second_flags

    pub joint_flags
        : are_flags 0 (joined_points ps qs) (moved_gaps 1 fs ++ moved_gaps (suc (length ps)) gs) ≡ true
    joint_flags =
        flags_Joined 0 1 (DO ∷ []) (ps ++ behind) [] (moved_gaps 1 fs ++ moved_gaps second gs) (omega arith) refl
        inside_flags

    last_piece : point_pieces 0 (qs ++ (ENDDO ∷ [])) gs ≡ point_pieces 0 qs gs ++ (Point ENDDO ∷ [])
    unfolding point_pieces
    last_piece =
        ap (point_pieces 0 behind) (sym (append-nil gs)) ∙
        points_joined 0 (length qs) qs (ENDDO ∷ []) gs [] (omega arith) two refl

    pub joint_pieces
        : point_pieces 0 (joined_points ps qs) (moved_gaps 1 fs ++ moved_gaps (suc (length ps)) gs)
        ≡ Point DO ∷ (point_pieces 0 ps fs ++ (point_pieces 0 qs gs ++ (Point ENDDO ∷ [])))
    unfolding point_pieces
    joint_pieces =
        points_joined 0 1 (DO ∷ []) (ps ++ behind) [] (moved_gaps 1 fs ++ moved_gaps second gs) (omega arith) refl
        inside_flags ∙
        ap (λ (xs : List Piece). Point DO ∷ xs)
        (points_joined 1 second ps behind (moved_gaps 1 fs) (moved_gaps second gs) (omega arith) first_flags second_flags
        ∙ ap (λ (xs : List Piece). xs ++ point_pieces second behind (moved_gaps second gs)) (pieces_at 1 ps fs)
        ∙ ap (λ (xs : List Piece). point_pieces 0 ps fs ++ xs) (pieces_at second behind gs ∙ last_piece))
