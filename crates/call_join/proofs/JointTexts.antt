-- The text of a joint nest in its parts: the new loop's DO, the first nest's points, the second's, the new ENDDO; then
-- the dependences, the first paper's before the second's. Its length is worked out from the two nests.
-- Main statements: `nest-text`, `joint_points`, `joint_deps`, `joint_text_length`; `stay_first`,
-- `stay_second`, `second_byte`.
use mathlib.Core.Path.{◌≡◌, refl, sym, ap, ◌∙◌}
use mathlib.Core.Bool.{true, false}
use mathlib.Core.List.{List, [], ◌∷◌, ◌++◌, append_assoc, append-nil}
use mathlib.Core.Logic.{inl, inr, ⊎_elim}
use Prim.Native.Nat.{ℕ, suc, ◌+◌, ◌*◌, ◌≤◌, ◌<◌}
use native.Mathlib.Omega.{arith}
use lib.Dec.{eqb}
use lib.ListN.{length, length-append}
use Rattle.laws.proofs.Tests.{eq_or}
use Rattle.laws.proofs.Choices.{pick_by}
use Rattle.paper_nests.specs.Kinds.{DO, ENDDO, FLAGGED, INDEPENDENT, POINTS}
use Rattle.paper_nests.specs.Nests.{Dep, Nest}
use Rattle.paper_nests.specs.Valid.{is_valid}
use Rattle.paper_nests.proofs.Deps.{Fits, valid_is, deps_fit}
use Rattle.paper_nests.proofs.Loops.{end_there}
use Rattle.paper_lines.specs.Lines.{line_text}
use Rattle.paper_lines.proofs.Writing.{text-length}
use Rattle.paper_texts.specs.Pieces.{Piece, Point, Depend, Flagged, piece_frame, dep_frame, pieces_text}
use Rattle.paper_texts.specs.NestTexts.{point_pieces, dep_pieces, bar_pieces, nest_text}
use Rattle.call_join.specs.JointNests.{moved_dep, moved_deps, joined, second_at, Papers, exceeds}
use Rattle.call_join.specs.Written.{points_text, inside_text, deps_text, StaysBytes, StayBytes}
use Rattle.call_join.proofs.JointShapes.{joint_length}
use Rattle.call_join.proofs.JointFlags.{joint_pieces}
use Rattle.call_join.proofs.JointValid.{joint_by}
use Rattle.call_join.proofs.Measuring.{pieces_cons, deps_cons}
use Rattle.call_join.proofs.PiecesWritten.{line_length, ring_length}

-- ---- one list of pieces after another

pieces_both : (xs ys : List Piece) → pieces_text (xs ++ ys) ≡ pieces_text xs ++ pieces_text ys
unfolding pieces_text
pieces_both [] ys = refl
pieces_both (x ∷ xs) ys =
    ap (λ (t : List ℕ). line_text (piece_frame x) ++ t) (pieces_both xs ys) ∙
    sym (append_assoc (line_text (piece_frame x)) (pieces_text xs) (pieces_text ys))

dep_pieces_both : (xs ys : List Dep) → dep_pieces (xs ++ ys) ≡ dep_pieces xs ++ dep_pieces ys
unfolding dep_pieces
dep_pieces_both [] ys = refl
dep_pieces_both (x ∷ xs) ys = ap (λ (zs : List Piece). Depend x ∷ zs) (dep_pieces_both xs ys)

-- ---- the joint text in its parts

-- points, then dependences, where nothing is barred
pub nest-text : (n : Nest) → n.barred ≡ [] → nest_text n ≡ points_text n ++ deps_text n.deps
unfolding nest_text bar_pieces
nest-text n none =
    let xs = point_pieces 0 n.points n.flagged in
    let ys = dep_pieces n.deps in
    ap (λ (bs : List ℕ). pieces_text (xs ++ (ys ++ bar_pieces bs))) none ∙
    ap (λ (zs : List Piece). pieces_text (xs ++ zs)) (append-nil ys) ∙
    pieces_both xs ys

pub joint_points : (n m : Nest) → Papers n m → points_text (joined n m) ≡ line_text (DO ∷ []) ++ inside_text n m
unfolding pieces_text
joint_points n m papers =
    let xs = point_pieces 0 n.points n.flagged in
    let ys = point_pieces 0 m.points m.flagged in
    let one = (valid_is n papers.first).all_flags in
    let two = (valid_is m papers.second).all_flags in
    ap pieces_text (joint_pieces n.points m.points n.flagged m.flagged one two) ∙
    ap (λ (t : List ℕ). line_text (DO ∷ []) ++ t)
    (pieces_both xs (ys ++ (Point ENDDO ∷ [])) ∙
    ap (λ (t : List ℕ). pieces_text xs ++ t)
    (pieces_both ys (Point ENDDO ∷ []) ∙ ap (λ (t : List ℕ). pieces_text ys ++ t) (append-nil (line_text (ENDDO ∷ [])))))

pub joint_deps : (xs ys : List Dep) → deps_text (xs ++ ys) ≡ deps_text xs ++ deps_text ys
joint_deps xs ys = ap pieces_text (dep_pieces_both xs ys) ∙ pieces_both (dep_pieces xs) (dep_pieces ys)

-- ---- its length

-- a flagged DO has a line as long as every point
points_length : (i : ℕ) (ps fs : List ℕ) → length (pieces_text (point_pieces i ps fs)) ≡ 3 * length ps
unfolding pieces_text point_pieces
points_length i [] fs = refl
points_length i (p ∷ ps) [] =
    omega (arith, pieces_cons (Point p) (point_pieces (suc i) ps []), text-length (p ∷ []), points_length (suc i) ps [])
points_length i (p ∷ ps) (f ∷ fs) =
    let taken = points_length (suc i) ps fs in
    let later = points_length (suc i) ps (f ∷ fs) in
    pick_by
    (λ (xs : List Piece). length (pieces_text xs) ≡ 3 * suc (length ps))
    {t = eqb i f}
    {a = Flagged ∷ point_pieces (suc i) ps fs}
    {b = Point p ∷ point_pieces (suc i) ps (f ∷ fs)}
    (λ z. omega (arith, pieces_cons Flagged (point_pieces (suc i) ps fs), text-length (FLAGGED ∷ []), taken))
    (λ z. omega (arith, pieces_cons (Point p) (point_pieces (suc i) ps (f ∷ fs)), text-length (p ∷ []), later))

-- a dependence has a line as long where it is moved along
line_same : (k : ℕ) (e : Dep) → length (line_text (dep_frame (moved_dep k e))) ≡ length (line_text (dep_frame e))
line_same k e = ⊎_elim
    (λ (z : e.kind ≡ INDEPENDENT). line_length (moved_dep k e) z ∙ sym (line_length e z))
    (λ (z : e.kind ≡ INDEPENDENT → ⊥). ring_length (moved_dep k e) z ∙ sym (ring_length e z))
    (eq_or e.kind INDEPENDENT)

moved_text : (k : ℕ) (es : List Dep) → length (deps_text (moved_deps k es)) ≡ length (deps_text es)
moved_text k [] = refl
moved_text k (e ∷ es) =
    omega (
      arith,
      deps_cons (moved_dep k e) (moved_deps k es),
      deps_cons e es,
      line_same k e,
      moved_text k es,
    )

pub joint_text_length
    : (n m : Nest)
    → length (nest_text (joined n m))
    ≡ 3 * (length n.points + length m.points + 2) + length (deps_text n.deps) + length (deps_text m.deps)
joint_text_length n m =
    let j = joined n m in
    let xs = moved_deps 1 n.deps in
    let ys = moved_deps (second_at n) m.deps in
    omega (
      arith,
      ap length (nest-text j refl),
      length-append (points_text j) (deps_text j.deps),
      points_length 0 j.points j.flagged,
      joint_length n.points m.points,
      ap length (joint_deps xs ys),
      length-append (deps_text xs) (deps_text ys),
      moved_text 1 n.deps,
      moved_text (second_at n) m.deps,
    )

-- ---- points moved along as bytes

-- points that are moved along within the limit are still bytes
stay : (n : Nest) (k : ℕ) → is_valid n ≡ true → k + length n.points ≤ 256 → StayBytes k n.deps
stay n k valid few e a = from (deps_fit n.points n.deps (valid_is n valid).all-deps e a)
  where
    from : Fits n.points e → StaysBytes k e
    from (inl l) =
        record {
          d_fits = λ z. absurd (z l.kind_is);
          s_fits = omega (arith, l.forward, l.target_there);
          t_fits = omega (arith, l.target_there);
        }
    from (inr b) =
        let there = end_there n.points (valid_is n valid).shape e.d b.loop in
        record {
          d_fits = λ z. omega (arith, b.source_after, b.source_before);
          s_fits = omega (arith, b.source_before);
          t_fits = omega (arith, b.target_before);
        }

module _ (n m : Nest) (papers : Papers n m) (fits : exceeds n m ≡ false) where
  few : length n.points + length m.points + 2 ≤ POINTS
  few =
      let valid = valid_is (joined n m) (joint_by n m papers fits).valid in
      omega (arith, joint_length n.points m.points, valid.few_points)

  pub stay_first : StayBytes 1 n.deps
  stay_first = stay n 1 papers.first (omega (arith, few))

  pub stay_second : StayBytes (second_at n) m.deps
  stay_second = stay m (second_at n) papers.second (omega (arith, few))

  pub second_byte : second_at n < 256
  second_byte = omega (arith, few)
